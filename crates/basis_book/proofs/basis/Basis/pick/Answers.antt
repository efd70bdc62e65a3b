use Rattle.basis_book.proofs.Names.{◌≡◌, ◌+◌, ◌-◌, ◌<◌, ◌≤◌, ◌<ℤ◌, ◌≤ℤ◌, sym, ap, ◌∙◌, subst, refl, All, IsSome, slice_get, ℕ, List, length, map, drop, get_or, ℤ, w32, to_z, of_z, arith, get_by_text, values, ints, to_z-of_z, BasisRow, Dated, dated, IsPicked}
use Rattle.std.proofs.lemmas.Map.Entries.{length-values_of}
use Rattle.basis_book.proofs.Picking.{picked_at, none_begun, has_place, places_long, table_at, table_is}
use Rattle.basis_book.proofs.basis.Basis.pick.Goals as goal

pub bounds-places-index : goal.bounds-places-index
bounds-places-index c =
    let tables = c.self.inside.tables in
    let long = places_long (slice_get (values tables)) (get_by_text tables) c.self.inside.rows c.self.inside.places.items c.self.invariant.2 in
    omega (arith, c.loop-index.invariant.0, long, ap (λ (xs : List BasisRow). length xs) c.as_slice-rows.ensures, ap (λ (xs : List ℕ). length xs) c.as_slice-places.ensures.value)

pub index-table-requires : goal.index-table-requires
index-table-requires c =
    let rows = c.self.inside.rows in
    let tables = c.self.inside.tables in
    let t = get_by_text tables in
    let row = c.index-rows-index.result in
    let i = c.loop-index.index - 1 in
    let same : row ≡ get_or rows i row = rw c.as_slice-rows.ensures at c.index-rows-index.is in
    let within : i < length rows = omega (arith, c.loop-index.invariant.0, ap (λ (xs : List BasisRow). length xs) c.as_slice-rows.ensures) in
    let known : IsSome (t row.table) = subst (λ (r : BasisRow). IsSome (t r.table)) (sym same) (c.self.invariant.1 i row within) in
    let is = table_at (slice_get (values tables)) t rows c.self.inside.places.items i row within same c.self.invariant.2 in
    let place = has_place (values tables) (get_or c.as_slice-places.result.now i 0) (t row.table) (rw c.as_slice-places.ensures.value is) known in
    omega (arith, length-values_of tables.entries, place)

pub returns-then-row-issued : goal.returns-then-row-issued
returns-then-row-issued c =
    let rows = c.as_slice-rows.result.now in
    let t = get_by_text c.self.inside.tables in
    let row = c.index-rows-index.result in
    let i = c.loop-index.index - 1 in
    let within : i < length rows = omega (arith, c.loop-index.invariant.0) in
    let again : i + 1 ≡ c.loop-index.index = omega arith in
    let day = to_z w32 (of_z w32 c.args.issued) in
    let plain : day ≡ c.args.issued = to_z-of_z w32 c.args.issued c.ranges.issued in
    let found : All (λ (r : BasisRow). day <ℤ r.from_day) (drop (i + 1) rows) = rw again c.loop-index.invariant.1 in
    let rest = subst (λ (z : ℤ). All (λ (r : BasisRow). z <ℤ r.from_day) (drop (i + 1) rows)) plain found in
    let begun : row.from_day ≤ℤ c.args.issued = omega (arith, ints) in
    let longs = ap (λ (xs : List BasisRow). length xs) c.as_slice-rows.ensures in
    let same : row ≡ get_or c.self.inside.rows i row = rw c.as_slice-rows.ensures at c.index-rows-index.is in
    let inside : i < length c.self.inside.rows = omega (arith, longs) in
    let points : row.bp ≤ 2000 = subst (λ (r : BasisRow). r.bp ≤ 2000) (sym same) (c.self.invariant.0.points i row inside) in
    let is = table_at (slice_get (values c.self.inside.tables)) t c.self.inside.rows c.self.inside.places.items i row inside same c.self.invariant.2 in
    let picked = picked_at t rows c.args.issued i row within c.index-rows-index.is begun rest in
    let whole : map (dated t) rows ≡ c.args.self.now = ap (λ (xs : List BasisRow). map (dated t) xs) c.as_slice-rows.ensures ∙ c.self.view_is in
    record {
      picked = (
        dated t row,
        subst (λ (xs : List Dated). IsPicked xs c.args.issued i (dated t row)) whole picked,
        table_is (t row.table) c.index-table.result.now _ (sym (rw c.as_slice-places.ensures.value at c.index-table.ensures) ∙ is),
        refl,
      );
      bounded = (omega (arith, c.self.invariant.0.few, longs), points);
    }

pub returns : goal.returns
returns c =
    let rows = c.as_slice-rows.result.now in
    let t = get_by_text c.self.inside.tables in
    let first : c.loop-index.index ≡ 0 = omega arith in
    let day = to_z w32 (of_z w32 c.args.issued) in
    let plain : day ≡ c.args.issued = to_z-of_z w32 c.args.issued c.ranges.issued in
    let found : All (λ (r : BasisRow). day <ℤ r.from_day) rows = rw first at c.loop-index.invariant.1 in
    let all = subst (λ (z : ℤ). All (λ (r : BasisRow). z <ℤ r.from_day) rows) plain found in
    let whole : map (dated t) rows ≡ c.args.self.now = ap (λ (xs : List BasisRow). map (dated t) xs) c.as_slice-rows.ensures ∙ c.self.view_is in
    record { picked = subst (λ (xs : List Dated). All (λ (entry : Dated). c.args.issued <ℤ entry.from_day) xs) whole (none_begun t rows c.args.issued all); bounded = tt }

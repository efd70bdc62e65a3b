use Rattle.basis_shelf.proofs.Names.{List, map, refl, inl, Contains, All, IsSome, AsksOnly, IsOfBasis, subst, get_by_text, ARow}
use Rattle.basis_shelf.proofs.Asking.{asks_basis, asks_one}
use Rattle.basis_shelf.proofs.Fetched.{none_missing, basis_is}
use Rattle.basis_shelf.proofs.fetching.fetch_parts.Goals as goal

pub unreachable-requires : goal.unreachable-requires
unreachable-requires g c =
    let held = get_by_text c.in_ok-tables.tables in
    let known = subst (λ (xs : List ARow). All (λ (r : ARow). IsSome (held r.table)) xs) c.as_slice.ensures c.in_ok-tables.ensures.known in
    none_missing held c.in_ok-rows.rows c.in_default.field-0.0 known c.in_default.ensures.missing

pub returns-clause-basis : goal.returns-clause-basis
returns-clause-basis g c = λ files agrees.
    let held = get_by_text c.in_ok-tables.tables in
    let known = subst (λ (xs : List ARow). All (λ (r : ARow). IsSome (held r.table)) xs) c.as_slice.ensures c.in_ok-tables.ensures.known in
    basis_is files c.args.name.now held c.in_ok-rows.rows c.in-Ok.basis c.in-Ok.ensures.rows
    (c.in_ok-rows.ensures.rows files (c.in_ok-tables.ensures.agreed files agrees)) (c.in_ok-tables.ensures.right files agrees) known

pub returns-in_err-rows-clause-asked : goal.returns-in_err-rows-clause-asked
returns-in_err-rows-clause-asked g c = λ files agrees.
    asks_one (IsOfBasis files c.args.name.now) c.args.name.now (g.H.Shelf.asked c.args.shelf.now) (g.H.Shelf.asked c.fetch_rows.new.shelf) (inl refl) c.fetch_rows.ensures.asked

pub returns-in_err-tables-clause-asked : goal.returns-in_err-tables-clause-asked
returns-in_err-tables-clause-asked g c = λ files agrees.
    asks_basis files c.args.name.now c.in_ok-rows.rows (g.H.Shelf.asked c.args.shelf.now) (g.H.Shelf.asked c.fetch_rows.new.shelf) (g.H.Shelf.asked c.fetch_tables.new.shelf)
    (c.in_ok-rows.ensures.rows files (c.fetch_tables.ensures.agreed files agrees)) c.fetch_rows.ensures.asked
    (subst (λ (xs : List ARow). AsksOnly (Contains (map (λ (r : ARow). r.table) xs)) (g.H.Shelf.asked c.fetch_rows.new.shelf) (g.H.Shelf.asked c.fetch_tables.new.shelf))
    c.as_slice.ensures c.fetch_tables.ensures.asked)

pub returns-clause-asked : goal.returns-clause-asked
returns-clause-asked g c = λ files agrees.
    asks_basis files c.args.name.now c.in_ok-rows.rows (g.H.Shelf.asked c.args.shelf.now) (g.H.Shelf.asked c.fetch_rows.new.shelf) (g.H.Shelf.asked c.fetch_tables.new.shelf)
    (c.in_ok-rows.ensures.rows files (c.fetch_tables.ensures.agreed files agrees)) c.fetch_rows.ensures.asked
    (subst (λ (xs : List ARow). AsksOnly (Contains (map (λ (r : ARow). r.table) xs)) (g.H.Shelf.asked c.fetch_rows.new.shelf) (g.H.Shelf.asked c.fetch_tables.new.shelf))
    c.as_slice.ensures c.fetch_tables.ensures.asked)

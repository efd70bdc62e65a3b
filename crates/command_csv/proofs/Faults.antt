-- A script with a first fault isn't read, and has no other first fault
use Rattle.command_csv.proofs.Names.{◌≡◌, ℕ, ◌+◌, ◌-◌, ◌≤◌, List, [], ◌∷◌, ◌++◌, length, take, suc, refl, ap, sym, ◌∙◌, subst, inl, inr, arith, AllZip, cases_order, take-take, Lane, ClerkLine, row_fields, IsLineRow, MayStandBehind, Reads, FitsUpTo, IsFirstBadField, IsFirstScriptFault, all_lines, valuations_in, most_valuations}
use Rattle.command_csv.proofs.Clerks.{valuations-cons, room_first, room_behind}
use Rattle.command_csv.proofs.OneReading.{one_entry}

-- so many valuations on these lines, after others
abbrev counted : ℕ → List ClerkLine → ℕ
counted valued entries = valued + valuations_in (all_lines entries)

behind_none : (entries : List ClerkLine) → valuations_in (all_lines entries) ≡ counted 0 entries
behind_none entries = omega arith

-- a line's share in the count
counted_on : (valued : ℕ) (entry : ClerkLine) (entries : List ClerkLine) → counted valued (entry ∷ entries) ≡ counted (valued + valuations_in (entry.line ∷ [])) entries
counted_on valued entry entries = omega (arith, valuations-cons entry.line (all_lines entries))

no_line : (valued : ℕ) (row : List (List ℕ)) (field : ℕ) (entry : ClerkLine) (entries : List ClerkLine) → IsFirstBadField (counted valued []) row field → IsLineRow row entry → counted valued (entry ∷ entries) ≤ most_valuations → ⊥
no_line valued row field entry entries bad is few =
    let none : counted valued [] ≡ valued = omega arith in
    let room : MayStandBehind valued entry.line = room_first valued entry.line (all_lines entries) few in
    bad.bad (record { entry = entry; allowed = is.0; room = subst (λ (n : ℕ). MayStandBehind n entry.line) (sym none) room; same = ap (take field) is.1 })

not_read : (valued : ℕ) (before : List (List (List ℕ))) (lines : List ClerkLine) (row : List (List ℕ)) (after : List (List (List ℕ))) (entries : List ClerkLine) (field : ℕ)
    → AllZip IsLineRow before lines → IsFirstBadField (counted valued lines) row field → AllZip IsLineRow (before ++ row ∷ after) entries → counted valued entries ≤ most_valuations → ⊥
not_read valued [] [] row after [] field right bad h few = h
not_read valued [] [] row after (entry ∷ entries) field right bad h few = no_line valued row field entry entries bad h.0 few
not_read valued [] (line ∷ lines) row after entries field right bad h few = absurd right
not_read valued (x ∷ xs) [] row after entries field right bad h few = absurd right
not_read valued (x ∷ xs) (line ∷ lines) row after [] field right bad h few = h
not_read valued (x ∷ xs) (line ∷ lines) row after (entry ∷ entries) field right bad h few =
    let same : entry ≡ line = one_entry x entry line h.0 right.0 in
    let next : ℕ = valued + valuations_in (line.line ∷ []) in
    let P : ClerkLine → Type 0 = λ e. counted (valued + valuations_in (e.line ∷ [])) entries ≤ most_valuations in
    let bound : counted (valued + valuations_in (entry.line ∷ [])) entries ≤ most_valuations = room_behind valued entry.line (all_lines entries) few in
    not_read next xs lines row after entries field right.1 (subst (λ (n : ℕ). IsFirstBadField n row field) (counted_on valued line lines) bad) h.1 (subst P same bound)

pub fault_excludes : (bytes : List ℕ) (row field : ℕ) (lanes : List Lane) → IsFirstScriptFault bytes row field → Reads bytes lanes → ⊥
fault_excludes bytes row field lanes fault reads =
    let P : List (List (List ℕ)) → Type 0 = λ rows. AllZip IsLineRow rows reads.entries in
    not_read 0 fault.before fault.entries fault.faulty fault.after reads.entries field fault.right.each (subst (λ (n : ℕ). IsFirstBadField n fault.faulty field) (behind_none fault.entries) fault.bad) (subst P fault.rows reads.rows.each) (omega (arith, reads.rows.few))

-- what fits up to a place fits up to an earlier one
fits_before : (valued : ℕ) (fields : List (List ℕ)) (early late : ℕ) → early ≤ late → FitsUpTo valued fields late → FitsUpTo valued fields early
fits_before valued fields early late h fits = record {
  entry = fits.entry;
  allowed = fits.allowed;
  room = fits.room;
  same = sym (take-take early late fields h) ∙ ap (take early) fits.same ∙ take-take early late (row_fields fits.entry) h;
}

one_field : (valued : ℕ) (fields : List (List ℕ)) (a b : ℕ) → IsFirstBadField valued fields a → IsFirstBadField valued fields b → a ≡ b
one_field valued fields a b first other = elim (cases_order a b) [
  | inl same ↦ same
  | inr (inl less) ↦ absurd (first.bad (fits_before valued fields a (b - 1) (omega arith) other.before))
  | inr (inr more) ↦ absurd (other.bad (fits_before valued fields b (a - 1) (omega arith) first.before))
]

-- two ways to stop in one list of rows are one
one_stop : (valued : ℕ) (xs ys : List (List (List ℕ))) (x y : List (List ℕ)) (x_after y_after : List (List (List ℕ))) (x_entries y_entries : List ClerkLine) (f g : ℕ)
    → xs ++ x ∷ x_after ≡ ys ++ y ∷ y_after → AllZip IsLineRow xs x_entries → AllZip IsLineRow ys y_entries
    → counted valued x_entries ≤ most_valuations → counted valued y_entries ≤ most_valuations
    → IsFirstBadField (counted valued x_entries) x f → IsFirstBadField (counted valued y_entries) y g
    → (length xs ≡ length ys) × (f ≡ g)
one_stop valued [] [] x y xa ya [] [] f g e hx hy fx fy bx by =
    let same : x ≡ y = cc in
    let P : List (List ℕ) → Type 0 = λ row. IsFirstBadField (counted valued []) row f in
    (refl, one_field (counted valued []) y f g (subst P same bx) by)
one_stop valued [] ys x y xa ya (entry ∷ xe) ye f g e hx hy fx fy bx by = absurd hx
one_stop valued xs [] x y xa ya xe (entry ∷ ye) f g e hx hy fx fy bx by = absurd hy
one_stop valued [] (b ∷ ys) x y xa ya xe [] f g e hx hy fx fy bx by = absurd hy
one_stop valued [] (b ∷ ys) x y xa ya [] (entry ∷ ye) f g e hx hy fx fy bx by =
    let same : x ≡ b = cc in
    let P : List (List ℕ) → Type 0 = λ row. IsFirstBadField (counted valued []) row f in
    absurd (no_line valued b f entry ye (subst P same bx) hy.0 fy)
one_stop valued (a ∷ xs) [] x y xa ya [] ye f g e hx hy fx fy bx by = absurd hx
one_stop valued (a ∷ xs) [] x y xa ya (entry ∷ xe) [] f g e hx hy fx fy bx by =
    let same : y ≡ a = cc in
    let P : List (List ℕ) → Type 0 = λ row. IsFirstBadField (counted valued []) row g in
    absurd (no_line valued a g entry xe (subst P same by) hx.0 fx)
one_stop valued (a ∷ xs) (b ∷ ys) x y xa ya [] ye f g e hx hy fx fy bx by = absurd hx
one_stop valued (a ∷ xs) (b ∷ ys) x y xa ya (entry ∷ xe) [] f g e hx hy fx fy bx by = absurd hy
one_stop valued (a ∷ xs) (b ∷ ys) x y xa ya (entry ∷ xe) (other ∷ ye) f g e hx hy fx fy bx by =
    let rest : xs ++ x ∷ xa ≡ ys ++ y ∷ ya = cc in
    let rows : a ≡ b = cc in
    let same : other ≡ entry = one_entry b other entry hy.0 (subst (λ (row : List (List ℕ)). IsLineRow row entry) rows hx.0) in
    let next : ℕ = valued + valuations_in (entry.line ∷ []) in
    let counts : counted valued (other ∷ ye) ≡ counted next ye = counted_on valued other ye ∙ ap (λ (made : ClerkLine). counted (valued + valuations_in (made.line ∷ [])) ye) same in
    let both = one_stop next xs ys x y xa ya xe ye f g rest hx.1 hy.1 (subst (λ (n : ℕ). n ≤ most_valuations) (counted_on valued entry xe) fx) (subst (λ (n : ℕ). n ≤ most_valuations) counts fy)
    (subst (λ (n : ℕ). IsFirstBadField n x f) (counted_on valued entry xe) bx) (subst (λ (n : ℕ). IsFirstBadField n y g) counts by) in
    (ap suc both.0, both.1)

pub one_fault : (bytes : List ℕ) (row other field place : ℕ) → IsFirstScriptFault bytes row field → IsFirstScriptFault bytes other place → (row ≡ other) × (field ≡ place)
one_fault bytes row other field place a b =
    let both = one_stop 0 a.before b.before a.faulty b.faulty a.after b.after a.entries b.entries field place (sym a.rows ∙ b.rows) a.right.each b.right.each (omega (arith, a.right.few)) (omega (arith, b.right.few))
    (subst (λ (n : ℕ). IsFirstBadField n a.faulty field) (behind_none a.entries) a.bad) (subst (λ (n : ℕ). IsFirstBadField n b.faulty place) (behind_none b.entries) b.bad) in
    let same : length a.before ≡ length b.before = both.0 in
    let at : row ≡ length a.before + 1 = a.number in
    let at' : other ≡ length b.before + 1 = b.number in
    (omega arith, both.1)

-- Lanes of rows: their numbers rise, and each row is a line of one of them
use Rattle.load_maker.proofs.Names.{◌≡◌, ℕ, zero, suc, ◌+◌, ◌≤◌, ◌<◌, ◌==◌, Bool, true, false, List, [], ◌∷◌, ◌++◌, length, map, refl, ap, sym, ◌∙◌, subst, arith, append-nil, length-append, AllByRecursion, Line, ClerkLine, IsValidPosting, lane_of, lanes_up_to, lines_of}
use Rattle.std.proofs.lemmas.Bool.{cond-false, cond-true, eqb-true, eqb-false, ne_eqb}
use Rattle.std.proofs.lemmas.Grind.{flat_map-append}
use Rattle.policy_types.specs.declared.script.Lane.{Lane}
use Rattle.policy_types.specs.Lanes.{AreRising, lines_in, numbers_of}
use Rattle.load_maker.proofs.Drawing.{IsRowFor, all_and}

-- lanes with numbers below one
abbrev AreBelow : ℕ → List Lane → Type 0
AreBelow n lanes = AllByRecursion (λ (lane : Lane). lane.number < n) lanes

rising_push : (lanes : List Lane) (last : Lane) → AreRising (numbers_of lanes) → AreBelow last.number lanes → AreRising (numbers_of (lanes ++ last ∷ []))
rising_push [] last rising below = tt
rising_push (lane ∷ []) last rising below = (below.0, tt)
rising_push (lane ∷ next ∷ lanes) last rising below = (rising.0, rising_push (next ∷ lanes) last rising.1 below.1)

below_next : (lanes : List Lane) (n m : ℕ) → n ≤ m → AreBelow n lanes → AreBelow m lanes
below_next [] n m more below = tt
below_next (lane ∷ lanes) n m more below = (omega (arith, more, below.0), below_next lanes n m more below.1)

pub record AreNumbered (lanes : List Lane) (n : ℕ) : Type 0 where
  pub rising : AreRising (numbers_of lanes)
  pub below : AllByRecursion (λ (lane : Lane). lane.number < suc n) lanes
  pub few : length lanes ≤ n

one_more : (lanes : List Lane) (n : ℕ) (lines : List Line) → AreNumbered lanes n → AreNumbered (lanes ++ lane_of (suc n) lines) (suc n)
one_more lanes n [] are = rw (append-nil lanes) (record {
  rising = are.rising;
  below = below_next lanes (suc n) (suc (suc n)) (omega arith) are.below;
  few = omega (arith, are.few);
})
one_more lanes n (line ∷ lines) are =
    let last : Lane = record { number = suc n; lines = line ∷ lines } in
    record {
      rising = rising_push lanes last are.rising are.below;
      below = all_and (λ (lane : Lane). lane.number < suc (suc n)) lanes (last ∷ [])
          (below_next lanes (suc n) (suc (suc n)) (omega arith) are.below) (omega arith, tt);
      few = omega (arith, are.few, length-append lanes (last ∷ []));
    }

pub numbered : (n : ℕ) (rows : List ClerkLine) → AreNumbered (lanes_up_to n rows) n
numbered zero rows = record { rising = tt; below = tt; few = omega arith }
numbered (suc n) rows = one_more (lanes_up_to n rows) n (lines_of (suc n) rows) (numbered n rows)

-- the lines of one lane more
lines_of_lane : (n : ℕ) (lines : List Line) → lines_in (lane_of n lines) ≡ lines
lines_of_lane n [] = refl
lines_of_lane n (line ∷ lines) = append-nil (line ∷ lines)

lines_more : (lanes : List Lane) (n : ℕ) (lines : List Line) → lines_in (lanes ++ lane_of n lines) ≡ lines_in lanes ++ lines
lines_more lanes n lines =
    flat_map-append (λ (lane : Lane). lane.lines) lanes (lane_of n lines)
    ∙ ap (λ more. lines_in lanes ++ more) (lines_of_lane n lines)

-- a lane's lines are of its rows alone
own : (n : ℕ) (row : ClerkLine) (rows : List ClerkLine) → (row.clerk == n) ≡ true → lines_of n (row ∷ rows) ≡ row.line ∷ lines_of n rows
own n row rows is = ap (map (λ (row : ClerkLine). row.line)) (cond-true (row.clerk == n) _ _ is)

other : (n : ℕ) (row : ClerkLine) (rows : List ClerkLine) → (row.clerk == n) ≡ false → lines_of n (row ∷ rows) ≡ lines_of n rows
other n row rows is = ap (map (λ (row : ClerkLine). row.line)) (cond-false (row.clerk == n) _ _ is)

valid_lines : (lanes n : ℕ) (rows : List ClerkLine) → AllByRecursion (IsRowFor lanes) rows → AllByRecursion IsValidPosting (lines_of n rows)
valid_lines lanes n [] right = tt
valid_lines lanes n (row ∷ rows) right = by (row.clerk == n) refl (valid_lines lanes n rows right.1)
  where
    by : (b : Bool) → (row.clerk == n) ≡ b → AllByRecursion IsValidPosting (lines_of n rows) → AllByRecursion IsValidPosting (lines_of n (row ∷ rows))
    by true is rest = subst (AllByRecursion IsValidPosting) (sym (own n row rows is)) (right.0.valid, rest)
    by false is rest = subst (AllByRecursion IsValidPosting) (sym (other n row rows is)) rest

pub all_valid : (lanes n : ℕ) (rows : List ClerkLine) → AllByRecursion (IsRowFor lanes) rows → AllByRecursion IsValidPosting (lines_in (lanes_up_to n rows))
all_valid lanes zero rows right = tt
all_valid lanes (suc n) rows right = subst (AllByRecursion IsValidPosting) (sym (lines_more (lanes_up_to n rows) (suc n) (lines_of (suc n) rows)))
    (all_and IsValidPosting (lines_in (lanes_up_to n rows)) (lines_of (suc n) rows) (all_valid lanes n rows right) (valid_lines lanes (suc n) rows right))

-- how many lines lanes 1 to n have
abbrev lines_up_to : ℕ → List ClerkLine → ℕ
lines_up_to zero rows = 0
lines_up_to (suc n) rows = lines_up_to n rows + length (lines_of (suc n) rows)

of_lanes : (n : ℕ) (rows : List ClerkLine) → length (lines_in (lanes_up_to n rows)) ≡ lines_up_to n rows
of_lanes zero rows = refl
of_lanes (suc n) rows =
    let more = ap length (lines_more (lanes_up_to n rows) (suc n) (lines_of (suc n) rows)) in
    let both = length-append (lines_in (lanes_up_to n rows)) (lines_of (suc n) rows) in
    let before = of_lanes n rows in
    omega (arith, more, both, before)

of_later : (n : ℕ) (row : ClerkLine) (rows : List ClerkLine) → n < row.clerk → lines_up_to n (row ∷ rows) ≡ lines_up_to n rows
of_later zero row rows later = refl
of_later (suc n) row rows later =
    let same = ap length (other (suc n) row rows (ne_eqb row.clerk (suc n) (λ e. omega (arith, e, later)))) in
    let before = of_later n row rows (omega (arith, later)) in
    omega (arith, same, before)

of_one : (n : ℕ) (row : ClerkLine) (rows : List ClerkLine) → 1 ≤ row.clerk → row.clerk ≤ n → lines_up_to n (row ∷ rows) ≡ suc (lines_up_to n rows)
of_one zero row rows first last = absurd (omega (arith, first, last))
of_one (suc n) row rows first last = by (row.clerk == suc n) refl (of_one n row rows first)
  where
    by : (b : Bool) → (row.clerk == suc n) ≡ b → (row.clerk ≤ n → lines_up_to n (row ∷ rows) ≡ suc (lines_up_to n rows))
        → lines_up_to (suc n) (row ∷ rows) ≡ suc (lines_up_to (suc n) rows)
    by true is rest =
        let here : row.clerk ≡ suc n = eqb-true row.clerk (suc n) is in
        let before = of_later n row rows (omega (arith, here)) in
        let own_lines = ap length (own (suc n) row rows is) in
        omega (arith, before, own_lines)
    by false is rest =
        let apart = eqb-false row.clerk (suc n) is in
        let before = rest (omega (arith, apart, last)) in
        let same = ap length (other (suc n) row rows is) in
        omega (arith, before, same)

none : (n : ℕ) → lines_up_to n [] ≡ 0
none zero = refl
none (suc n) = let before = none n in omega (arith, before)

of_rows : (lanes : ℕ) (rows : List ClerkLine) → AllByRecursion (IsRowFor lanes) rows → lines_up_to lanes rows ≡ length rows
of_rows lanes [] right = none lanes
of_rows lanes (row ∷ rows) right = of_one lanes row rows right.0.first right.0.last ∙ ap suc (of_rows lanes rows right.1)

pub all_counted : (lanes : ℕ) (rows : List ClerkLine) → AllByRecursion (IsRowFor lanes) rows → length (lines_in (lanes_up_to lanes rows)) ≡ length rows
all_counted lanes rows right = of_lanes lanes rows ∙ of_rows lanes rows right

-- What holds of the lanes of any script
use Rattle.command_csv.proofs.Names.{◌≡◌, ℕ, zero, suc, ◌+◌, ◌≤◌, ◌<◌, ◌==◌, Bool, true, false, cond, List, [], ◌∷◌, ◌++◌, length, refl, ap, sym, ◌∙◌, subst, arith, append-nil, length-append, AllByRecursion, AllZip, filter, cond-false, cond-true, eqb-false, eqb-true, ne_eqb, length-map, map-append, Line, Lane, ClerkLine, IsClerk, IsLineRow, IsScriptLine, Reads, all_lines, is_valuation, lane_of, lanes_up_to, last_lane, lines_of, rows_of}
use Rattle.std.proofs.lemmas.Grind.{flat_map-append}
use Rattle.std.proofs.lemmas.List.Elements.{filter-append}
use Rattle.command_csv.specs.Lanes.{AreLanesOf, IsLane}
use Rattle.policy_types.specs.Lanes.{AreRising, numbers_of, lines_in}
use Rattle.command_csv.proofs.Clerks.{all_right}

all_and : {A : Type 0} (P : A → Type 0) (xs ys : List A) → AllByRecursion P xs → AllByRecursion P ys → AllByRecursion P (xs ++ ys)
all_and P [] ys all also = also
all_and P (x ∷ xs) ys all also = (all.0, all_and P xs ys all.1 also)

-- The numbers rise.
rising_push : (ns : List ℕ) (m : ℕ) → AreRising ns → AllByRecursion (λ n. n < m) ns → AreRising (ns ++ m ∷ [])
rising_push [] m rising below = tt
rising_push (n ∷ []) m rising below = (below.0, tt)
rising_push (n ∷ k ∷ ns) m rising below = (rising.0, rising_push (k ∷ ns) m rising.1 below.1)

below_next : (ns : List ℕ) (m k : ℕ) → m ≤ k → AllByRecursion (λ n. n < m) ns → AllByRecursion (λ n. n < k) ns
below_next [] m k more below = tt
below_next (n ∷ ns) m k more below = (omega (arith, more, below.0), below_next ns m k more below.1)

record AreNumbered (lanes : List Lane) (n : ℕ) : Type 0 where
  rising : AreRising (numbers_of lanes)
  below : AllByRecursion (λ k. k < suc n) (numbers_of lanes)

one_more : (lanes : List Lane) (n : ℕ) (lines : List Line) → AreNumbered lanes n → AreNumbered (lanes ++ lane_of (suc n) lines) (suc n)
one_more lanes n [] are = rw (append-nil lanes) (record { rising = are.rising; below = below_next (numbers_of lanes) (suc n) (suc (suc n)) (omega arith) are.below })
one_more lanes n (line ∷ lines) are =
    let lane : Lane = record { number = suc n; lines = line ∷ lines } in
    let numbers = map-append (λ (lane : Lane). lane.number) lanes (lane ∷ []) in
    record {
      rising = subst AreRising (sym numbers) (rising_push (numbers_of lanes) (suc n) are.rising are.below);
      below = subst (AllByRecursion (λ k. k < suc (suc n))) (sym numbers)
          (all_and (λ k. k < suc (suc n)) (numbers_of lanes) (suc n ∷ []) (below_next (numbers_of lanes) (suc n) (suc (suc n)) (omega arith) are.below) (omega arith, tt));
    }

numbered : (n : ℕ) (entries : List ClerkLine) → AreNumbered (lanes_up_to n entries) n
numbered zero entries = record { rising = tt; below = tt }
numbered (suc n) entries = one_more (lanes_up_to n entries) n (lines_of (suc n) entries) (numbered n entries)

-- Each lane is right.
lines_right : (n : ℕ) (entries : List ClerkLine) → AllByRecursion IsScriptLine (all_lines entries) → AllByRecursion IsScriptLine (lines_of n entries)
lines_right n [] right = tt
lines_right n (entry ∷ entries) right = by (entry.clerk == n) (lines_right n entries right.1)
  where
    others : List ClerkLine
    others = filter (λ (other : ClerkLine). other.clerk == n) entries

    by : (b : Bool) → AllByRecursion IsScriptLine (all_lines others) → AllByRecursion IsScriptLine (all_lines (cond b (entry ∷ others) others))
    by true rest = (right.0, rest)
    by false rest = rest

lane_right : (n : ℕ) (lines : List Line) → IsClerk n → AllByRecursion IsScriptLine lines → AllByRecursion IsLane (lane_of n lines)
lane_right n [] clerk right = tt
lane_right n (line ∷ lines) clerk right = (record { clerk_in = clerk; some = omega arith; right = right }, tt)

lanes_right : (n : ℕ) (entries : List ClerkLine) → n ≤ last_lane → AllByRecursion IsScriptLine (all_lines entries) → AllByRecursion IsLane (lanes_up_to n entries)
lanes_right zero entries few right = tt
lanes_right (suc n) entries few right =
    all_and IsLane (lanes_up_to n entries) (lane_of (suc n) (lines_of (suc n) entries)) (lanes_right n entries (omega (arith, few)) right)
    (lane_right (suc n) (lines_of (suc n) entries) (omega arith, omega (arith, few)) (lines_right (suc n) entries right))

-- the lines of one lane more
lines_of_lane : (n : ℕ) (lines : List Line) → lines_in (lane_of n lines) ≡ lines
lines_of_lane n [] = refl
lines_of_lane n (line ∷ lines) = append-nil (line ∷ lines)

lines_more : (lanes : List Lane) (n : ℕ) (lines : List Line) → lines_in (lanes ++ lane_of n lines) ≡ lines_in lanes ++ lines
lines_more lanes n lines =
    flat_map-append (λ (lane : Lane). lane.lines) lanes (lane_of n lines)
    ∙ ap (λ more. lines_in lanes ++ more) (lines_of_lane n lines)

-- The lanes hold as many lines that pass a test as the rows do.
module _ (p : Line → Bool) where
  abbrev passing : List Line → ℕ
  passing lines = length (filter p lines)

  abbrev of_clerks : ℕ → List ClerkLine → ℕ
  of_clerks zero entries = 0
  of_clerks (suc n) entries = of_clerks n entries + passing (lines_of (suc n) entries)

  passing_both : (xs ys : List Line) → passing (xs ++ ys) ≡ passing xs + passing ys
  passing_both xs ys = ap length (filter-append p xs ys) ∙ length-append (filter p xs) (filter p ys)

  of_lanes : (n : ℕ) (entries : List ClerkLine) → passing (lines_in (lanes_up_to n entries)) ≡ of_clerks n entries
  of_lanes zero entries = refl
  of_lanes (suc n) entries =
      let more = ap passing (lines_more (lanes_up_to n entries) (suc n) (lines_of (suc n) entries)) in
      let both = passing_both (lines_in (lanes_up_to n entries)) (lines_of (suc n) entries) in
      let before = of_lanes n entries in
      more ∙ both ∙ ap (λ k. k + passing (lines_of (suc n) entries)) before

  own : (n : ℕ) (entry : ClerkLine) (entries : List ClerkLine) → (entry.clerk == n) ≡ true → lines_of n (entry ∷ entries) ≡ entry.line ∷ lines_of n entries
  own n entry entries is = ap all_lines (cond-true (entry.clerk == n) _ _ is)

  other : (n : ℕ) (entry : ClerkLine) (entries : List ClerkLine) → (entry.clerk == n) ≡ false → lines_of n (entry ∷ entries) ≡ lines_of n entries
  other n entry entries is = ap all_lines (cond-false (entry.clerk == n) _ _ is)

  -- the line of a later clerk counts for none of them
  of_later : (n : ℕ) (entry : ClerkLine) (entries : List ClerkLine) → n < entry.clerk → of_clerks n (entry ∷ entries) ≡ of_clerks n entries
  of_later zero entry entries later = refl
  of_later (suc n) entry entries later =
      let same = ap passing (other (suc n) entry entries (ne_eqb entry.clerk (suc n) (λ e. omega (arith, e, later)))) in
      let before = of_later n entry entries (omega (arith, later)) in
      omega (arith, same, before)

  -- a line of one lane counts once
  of_one : (n : ℕ) (entry : ClerkLine) (entries : List ClerkLine) → 1 ≤ entry.clerk → entry.clerk ≤ n
      → of_clerks n (entry ∷ entries) ≡ of_clerks n entries + passing (entry.line ∷ [])
  of_one zero entry entries first last = absurd (omega (arith, first, last))
  of_one (suc n) entry entries first last = by (entry.clerk == suc n) refl (of_one n entry entries first)
    where
      by : (b : Bool) → (entry.clerk == suc n) ≡ b → (entry.clerk ≤ n → of_clerks n (entry ∷ entries) ≡ of_clerks n entries + passing (entry.line ∷ []))
          → of_clerks (suc n) (entry ∷ entries) ≡ of_clerks (suc n) entries + passing (entry.line ∷ [])
      by true is earlier =
          let clerk : entry.clerk ≡ suc n = eqb-true entry.clerk (suc n) is in
          let before = of_later n entry entries (omega (arith, clerk)) in
          let here = ap passing (own (suc n) entry entries is) ∙ passing_both (entry.line ∷ []) (lines_of (suc n) entries) in
          omega (arith, before, here)
      by false is earlier =
          let not : (entry.clerk ≡ suc n → ⊥) = eqb-false entry.clerk (suc n) is in
          let here = ap passing (other (suc n) entry entries is) in
          let before = earlier (omega (arith, last, not)) in
          omega (arith, before, here)

  of_none : (n : ℕ) → of_clerks n [] ≡ 0
  of_none zero = refl
  of_none (suc n) = let before = of_none n in omega (arith, before)

  of_all : (n : ℕ) (entries : List ClerkLine) → AllByRecursion (λ (entry : ClerkLine). (1 ≤ entry.clerk) × (entry.clerk ≤ n)) entries → of_clerks n entries ≡ passing (all_lines entries)
  of_all n [] clerks = of_none n
  of_all n (entry ∷ entries) clerks =
      let one = of_one n entry entries clerks.0.0 clerks.0.1 in
      let rest = of_all n entries clerks.1 in
      let both : passing (entry.line ∷ all_lines entries) ≡ passing (entry.line ∷ []) + passing (all_lines entries) = passing_both (entry.line ∷ []) (all_lines entries) in
      omega (arith, one, rest, both)

  pub as_many : (n : ℕ) (entries : List ClerkLine) → AllByRecursion (λ (entry : ClerkLine). (1 ≤ entry.clerk) × (entry.clerk ≤ n)) entries
      → passing (lines_in (lanes_up_to n entries)) ≡ passing (all_lines entries)
  as_many n entries clerks = of_lanes n entries ∙ of_all n entries clerks

all_pass : (lines : List Line) → length (filter (λ line. true) lines) ≡ length lines
all_pass [] = refl
all_pass (line ∷ lines) = ap suc (all_pass lines)

clerks_in : (rows : List (List (List ℕ))) (entries : List ClerkLine) → AllZip IsLineRow rows entries → AllByRecursion (λ (entry : ClerkLine). IsClerk entry.clerk) entries
clerks_in [] [] h = tt
clerks_in [] (entry ∷ entries) h = absurd h
clerks_in (row ∷ rows) [] h = absurd h
clerks_in (row ∷ rows) (entry ∷ entries) h = (h.0.0.clerk_in, clerks_in rows entries h.1)

same_length : (rows : List (List (List ℕ))) (entries : List ClerkLine) → AllZip IsLineRow rows entries → length entries ≡ length rows
same_length [] [] h = refl
same_length [] (entry ∷ entries) h = absurd h
same_length (row ∷ rows) [] h = absurd h
same_length (row ∷ rows) (entry ∷ entries) h = ap suc (same_length rows entries h.1)

pub lanes_whole : (bytes : List ℕ) (lanes : List Lane) → Reads bytes lanes → AreLanesOf (length (rows_of bytes)) lanes
lanes_whole bytes lanes reads = subst (AreLanesOf (length (rows_of bytes))) (sym reads.by_clerk) (record {
  rising = (numbered last_lane reads.entries).rising;
  each = lanes_right last_lane reads.entries (omega arith) (all_right (rows_of bytes) reads.entries reads.rows.each);
  whole = omega (
    arith,
    all_pass (lines_in said),
    all_pass (all_lines reads.entries),
    as_many (λ line. true) last_lane reads.entries clerks,
    length-map reads.entries (λ (entry : ClerkLine). entry.line),
    same_length (rows_of bytes) reads.entries reads.rows.each,
  );
  few = omega (arith, as_many is_valuation last_lane reads.entries clerks, reads.rows.few);
})
  where
    said : List Lane
    said = lanes_up_to last_lane reads.entries

    clerks : AllByRecursion (λ (entry : ClerkLine). IsClerk entry.clerk) reads.entries
    clerks = clerks_in (rows_of bytes) reads.entries reads.rows.each

-- The transcript of all lanes
use Rattle.lane_runner.proofs.Names.{◌≡◌, ◌⊎◌, ℕ, ◌<◌, ◌==◌, nat_eq, Bool, true, false, List, [], ◌∷◌, ◌++◌, map, inl, inr, refl, ap, sym, ◌∙◌, subst, arith, AllByRecursion, AllZip, Contains, IsDistinct, flat_map, IsPermutation, eq-eqb, eqb-true, false≢true, map-append, IsPermutation-map, IsPermutation-sym, Dated, Entry, Line, Lane, Opening, AnswersLanes, AnswersLine, AnswersLines, turns_of, Holding, PassFacts, IsOfficeHistory, OfficeOpening, TranscriptLine, AnsweredLine, AreOfLanes, lines_by, turns_in, AreRising, AreRightLanes, HasAnsweredLanes, HasRunLanes, IsTold, dry_of, AreInOrder, Seat, told_in}
use Rattle.std.proofs.lemmas.Map.Keys.{IsDistinct-IsPermutation}
use Rattle.lane_runner.proofs.AnswerSteps.{all_append, all_weaker, answers_drier, zip_append}
use Rattle.lane_runner.proofs.RunSteps.{AreLanesOf, IsLaneOf, callers_in}
use Rattle.lane_runner.proofs.MergeSteps.{In, IsAt, Rises, all_in, are_dry, at_one_caller, distinct_append, distinct_rises, dry_from, dry_to, differ, from_filter, in_all, in_back, in_cases, in_contains, in_filter, in_front, in_moved, lines_answered, lines_at, rises_filter, rises_of, rises_rising, rises_same, rising_sorted, zip_moved_both}

abbrev numbers : List Lane → List ℕ
numbers lanes = map (λ (lane : Lane). lane.number) lanes

abbrev firsts : List AnsweredLine → List ℕ
firsts lines = map (λ (one : AnsweredLine). one.first.0) lines

all_map : {A B : Type 0} (P : B → Type 0) (f : A → B) (xs : List A) → AllByRecursion (λ x. P (f x)) xs → AllByRecursion P (map f xs)
all_map P f [] all = tt
all_map P f (x ∷ xs) all = (all.0, all_map P f xs all.1)

flips : (x y : ℕ) → nat_eq x y ≡ nat_eq y x
flips x y = by (nat_eq y x) refl
  where
    by : (b : Bool) → nat_eq y x ≡ b → nat_eq x y ≡ nat_eq y x
    by true is = eq-eqb x y (sym (eqb-true y x is)) ∙ sym is
    by false is = differ x y (λ same. false≢true (sym is ∙ eq-eqb y x (sym same))) ∙ sym is

-- a number is below those that rise after it
rising_above : (n m : ℕ) (ns : List ℕ) → AreRising (n ∷ ns) → In m ns → n < m
rising_above n m [] rising is = absurd is
rising_above n m (k ∷ ns) rising (inl same) = omega (arith, rising.0, same)
rising_above n m (k ∷ ns) rising (inr later) = let above = rising_above k m ns rising.1 later in omega (arith, rising.0, above)

rising_later : (n : ℕ) (ns : List ℕ) → AreRising (n ∷ ns) → AreRising ns
rising_later n [] rising = tt
rising_later n (m ∷ ns) rising = rising.1

turns_are : (opening : Opening) (history : List Entry) (basis : List Dated) (answered : List AnsweredLine) (tolds : List TranscriptLine)
    → AllZip (IsTold opening history basis) answered tolds → map (λ (told : TranscriptLine). told.turn) tolds ≡ firsts answered
turns_are opening history basis [] [] all = refl
turns_are opening history basis [] (told ∷ tolds) all = absurd all
turns_are opening history basis (one ∷ answered) [] all = absurd all
turns_are opening history basis (one ∷ answered) (told ∷ tolds) all =
    let rest = turns_are opening history basis answered tolds all.1 in λ i. all.0.turn i ∷ rest i

abbrev pub items_in : {D W : Type 0} → List (Seat D W) → List TranscriptLine
items_in {D} {W} seats = flat_map (λ (seat : Seat D W). told_in seat) seats

drier : (lines tolds : List TranscriptLine) → ((told : TranscriptLine) → In told tolds → In told lines)
    → (x : ℕ) → Contains (dry_of tolds) x → Contains (dry_of lines) x
drier lines tolds within x dry =
    let found = dry_from x tolds dry in
    subst (Contains (dry_of lines)) found.1.2 (dry_to found.0 lines (within found.0 found.1.0) found.1.1)

module _ {D W : Type 0} (opening : Opening) (history : List Entry) (basis : List Dated) where
  abbrev answered_in : (lanes : List Lane) (seats : List (Seat D W)) → AreLanesOf opening history basis lanes seats → List AnsweredLine
  answered_in [] [] are = []
  answered_in [] (seat ∷ seats) are = absurd are
  answered_in (lane ∷ lanes) [] are = absurd are
  answered_in (lane ∷ lanes) (seat ∷ seats) are = are.0.answered ++ answered_in lanes seats are.1

  tells_in : (lanes : List Lane) (seats : List (Seat D W)) (are : AreLanesOf opening history basis lanes seats)
      → AllZip (IsTold opening history basis) (answered_in lanes seats are) (items_in seats)
  tells_in [] [] are = tt
  tells_in [] (seat ∷ seats) are = absurd are
  tells_in (lane ∷ lanes) [] are = absurd are
  tells_in (lane ∷ lanes) (seat ∷ seats) are =
      zip_append (IsTold opening history basis) are.0.answered (answered_in lanes seats are.1) (told_in seat) (items_in seats) are.0.tells
      (tells_in lanes seats are.1)

  places_in : (lanes : List Lane) (seats : List (Seat D W)) (are : AreLanesOf opening history basis lanes seats)
      → AllByRecursion (λ (one : AnsweredLine). (caller : ℕ) × (In caller (callers_in seats) × IsAt history caller one.first.0)) (answered_in lanes seats are)
  places_in [] [] are = tt
  places_in [] (seat ∷ seats) are = absurd are
  places_in (lane ∷ lanes) [] are = absurd are
  places_in (lane ∷ lanes) (seat ∷ seats) are =
      all_append (λ (one : AnsweredLine). (caller : ℕ) × (In caller (callers_in (seat ∷ seats)) × IsAt history caller one.first.0))
      are.0.answered (answered_in lanes seats are.1)
      (all_weaker (λ (one : AnsweredLine). IsAt history seat.0.caller one.first.0)
      (λ (one : AnsweredLine). (caller : ℕ) × (In caller (callers_in (seat ∷ seats)) × IsAt history caller one.first.0))
      (λ one at. (seat.0.caller, (inl refl, at))) are.0.answered (lines_at history seat.0.caller are.0.answered are.0.turns))
      (all_weaker (λ (one : AnsweredLine). (caller : ℕ) × (In caller (callers_in seats) × IsAt history caller one.first.0))
      (λ (one : AnsweredLine). (caller : ℕ) × (In caller (callers_in (seat ∷ seats)) × IsAt history caller one.first.0))
      (λ one at. (at.0, (inr at.1.0, at.1.1))) (answered_in lanes seats are.1) (places_in lanes seats are.1))

  distinct_in : (lanes : List Lane) (seats : List (Seat D W)) (are : AreLanesOf opening history basis lanes seats) → IsDistinct nat_eq (callers_in seats)
      → IsDistinct nat_eq (firsts (answered_in lanes seats are))
  unfolding IsDistinct
  distinct_in [] [] are apart = tt
  distinct_in [] (seat ∷ seats) are apart = absurd are
  distinct_in (lane ∷ lanes) [] are apart = absurd are
  distinct_in (lane ∷ lanes) (seat ∷ seats) are apart =
      subst (IsDistinct nat_eq) (sym (map-append (λ (one : AnsweredLine). one.first.0) are.0.answered (answered_in lanes seats are.1)))
      (distinct_append (firsts are.0.answered) (firsts (answered_in lanes seats are.1))
      (distinct_rises 0 are.0.answered (rises_of history seat.0.caller are.0.answered are.0.turns))
      (distinct_in lanes seats are.1 apart.1)
      (all_map (λ x. AllByRecursion (λ y. nat_eq x y ≡ false) (firsts (answered_in lanes seats are.1))) (λ (one : AnsweredLine). one.first.0) are.0.answered
      (all_weaker (λ (one : AnsweredLine). IsAt history seat.0.caller one.first.0)
      (λ (one : AnsweredLine). AllByRecursion (λ y. nat_eq one.first.0 y ≡ false) (firsts (answered_in lanes seats are.1)))
      between are.0.answered (lines_at history seat.0.caller are.0.answered are.0.turns))))
    where
      apart_from : (caller : ℕ) → In caller (callers_in seats) → seat.0.caller ≡ caller → ⊥
      apart_from caller among same =
          false≢true (sym (all_in (λ y. nat_eq seat.0.caller y ≡ false) caller (callers_in seats) apart.0 among) ∙ eq-eqb seat.0.caller caller same)

      between : (one : AnsweredLine) → IsAt history seat.0.caller one.first.0
          → AllByRecursion (λ y. nat_eq one.first.0 y ≡ false) (firsts (answered_in lanes seats are.1))
      between one at =
          all_map (λ y. nat_eq one.first.0 y ≡ false) (λ (other : AnsweredLine). other.first.0) (answered_in lanes seats are.1)
          (all_weaker (λ (other : AnsweredLine). (caller : ℕ) × (In caller (callers_in seats) × IsAt history caller other.first.0))
          (λ (other : AnsweredLine). nat_eq one.first.0 other.first.0 ≡ false)
          (λ other there. differ one.first.0 other.first.0
          (λ same. apart_from there.0 there.1.0
          (at_one_caller history seat.0.caller there.0 other.first.0 (subst (IsAt history seat.0.caller) same at) there.1.1)))
          (answered_in lanes seats are.1) (places_in lanes seats are.1))

  clerks_in : (lanes : List Lane) (seats : List (Seat D W)) (are : AreLanesOf opening history basis lanes seats)
      → AllByRecursion (λ (one : AnsweredLine). In one.clerk (numbers lanes)) (answered_in lanes seats are)
  clerks_in [] [] are = tt
  clerks_in [] (seat ∷ seats) are = absurd are
  clerks_in (lane ∷ lanes) [] are = absurd are
  clerks_in (lane ∷ lanes) (seat ∷ seats) are =
      all_append (λ (one : AnsweredLine). In one.clerk (numbers (lane ∷ lanes))) are.0.answered (answered_in lanes seats are.1)
      (all_weaker (λ (one : AnsweredLine). one.clerk ≡ lane.number) (λ (one : AnsweredLine). In one.clerk (numbers (lane ∷ lanes)))
      (λ one its. inl (sym its)) are.0.answered are.0.theirs)
      (all_weaker (λ (one : AnsweredLine). In one.clerk (numbers lanes)) (λ (one : AnsweredLine). In one.clerk (numbers (lane ∷ lanes)))
      (λ one its. inr its) (answered_in lanes seats are.1) (clerks_in lanes seats are.1))

  module _ (lines : List TranscriptLine) where
    lane_answers : (lane : Lane) (seat : Seat D W) (is : IsLaneOf opening history basis lane seat.0.caller (told_in seat))
        → ((told : TranscriptLine) → In told (told_in seat) → In told lines)
        → AllByRecursion (λ (one : AnsweredLine). AnswersLine (dry_of lines) one.line (turns_in one)) is.answered
    lane_answers lane seat is within =
        all_weaker (λ (one : AnsweredLine). AnswersLine (dry_of (told_in seat)) one.line (turns_in one))
        (λ (one : AnsweredLine). AnswersLine (dry_of lines) one.line (turns_in one))
        (λ one. answers_drier (dry_of (told_in seat)) (dry_of lines) (drier lines (told_in seat) within) one.line (turns_in one)) is.answered is.answers

    answers_in : (lanes : List Lane) (seats : List (Seat D W)) (are : AreLanesOf opening history basis lanes seats)
        → ((told : TranscriptLine) → In told (items_in seats) → In told lines)
        → AllByRecursion (λ (one : AnsweredLine). AnswersLine (dry_of lines) one.line (turns_in one)) (answered_in lanes seats are)
    answers_in [] [] are within = tt
    answers_in [] (seat ∷ seats) are within = absurd are
    answers_in (lane ∷ lanes) [] are within = absurd are
    answers_in (lane ∷ lanes) (seat ∷ seats) are within =
        all_append (λ (one : AnsweredLine). AnswersLine (dry_of lines) one.line (turns_in one)) are.0.answered (answered_in lanes seats are.1)
        (lane_answers lane seat are.0 (λ told is. within told (in_front told (told_in seat) (items_in seats) is)))
        (answers_in lanes seats are.1 (λ told is. within told (in_back told (told_in seat) (items_in seats) is)))

    lanes_answered : (lanes : List Lane) (seats : List (Seat D W)) → AreLanesOf opening history basis lanes seats
        → ((told : TranscriptLine) → In told (items_in seats) → In told lines) → AnswersLanes (dry_of lines) history lanes (callers_in seats)
    lanes_answered [] [] are within = tt
    lanes_answered [] (seat ∷ seats) are within = absurd are
    lanes_answered (lane ∷ lanes) [] are within = absurd are
    lanes_answered (lane ∷ lanes) (seat ∷ seats) are within = (
      subst (λ (asked : List Line). AnswersLines (dry_of lines) asked (turns_of history seat.0.caller)) are.0.asked
          (subst (AnswersLines (dry_of lines) (map (λ (one : AnsweredLine). one.line) are.0.answered)) are.0.turns
          (lines_answered (dry_of lines) are.0.answered
          (lane_answers lane seat are.0 (λ told is. within told (in_front told (told_in seat) (items_in seats) is))))),
      lanes_answered lanes seats are.1 (λ told is. within told (in_back told (told_in seat) (items_in seats) is)),
    )

  -- if all lines rise, those of each lane are the lane's
  each_of : (all : List AnsweredLine) → Rises 0 all → (lanes : List Lane) (seats : List (Seat D W)) (are : AreLanesOf opening history basis lanes seats)
      → AreRising (numbers lanes) → ((z : AnsweredLine) → In z all → In z.clerk (numbers lanes) → In z (answered_in lanes seats are))
      → ((z : AnsweredLine) → In z (answered_in lanes seats are) → In z all) → AreOfLanes all history lanes (callers_in seats)
  each_of all rises [] [] are rising there back = tt
  each_of all rises [] (seat ∷ seats) are rising there back = absurd are
  each_of all rises (lane ∷ lanes) [] are rising there back = absurd are
  each_of all rises (lane ∷ lanes) (seat ∷ seats) are rising there back = (
    (ap (map (λ (one : AnsweredLine). one.line)) here ∙ are.0.asked, ap (flat_map turns_in) here ∙ are.0.turns),
    each_of all rises lanes seats are.1 (rising_later lane.number (numbers lanes) rising)
        (λ z is among. elsewhere z among (in_cases z are.0.answered (answered_in lanes seats are.1) (there z is (inr among))))
        (λ z is. back z (in_back z are.0.answered (answered_in lanes seats are.1) is)),
  )
    where
      elsewhere : (z : AnsweredLine) → In z.clerk (numbers lanes) → In z are.0.answered ⊎ In z (answered_in lanes seats are.1) → In z (answered_in lanes seats are.1)
      elsewhere z among (inr later) = later
      elsewhere z among (inl first) =
          absurd (let above = rising_above lane.number z.clerk (numbers lanes) rising among in
          let same = all_in (λ (one : AnsweredLine). one.clerk ≡ lane.number) z are.0.answered are.0.theirs first in omega (arith, above, same))

      its_own : (z : AnsweredLine) → z.clerk ≡ lane.number → In z are.0.answered ⊎ In z (answered_in lanes seats are.1) → In z are.0.answered
      its_own z its (inl first) = first
      its_own z its (inr later) =
          absurd (let above = rising_above lane.number z.clerk (numbers lanes) rising
          (all_in (λ (one : AnsweredLine). In one.clerk (numbers lanes)) z (answered_in lanes seats are.1) (clerks_in lanes seats are.1) later) in
          omega (arith, above, its))

      found : (z : AnsweredLine) → In z (lines_by lane.number all) → In z are.0.answered
      found z is =
          let at = from_filter (λ (one : AnsweredLine). one.clerk == lane.number) z all is in
          let its : z.clerk ≡ lane.number = eqb-true z.clerk lane.number at.1 in
          its_own z its (in_cases z are.0.answered (answered_in lanes seats are.1) (there z at.0 (inl (sym its))))

      given : (z : AnsweredLine) → In z are.0.answered → In z (lines_by lane.number all)
      given z is = in_filter (λ (one : AnsweredLine). one.clerk == lane.number) z all (back z (in_front z are.0.answered (answered_in lanes seats are.1) is))
          (eq-eqb z.clerk lane.number (all_in (λ (one : AnsweredLine). one.clerk ≡ lane.number) z are.0.answered are.0.theirs is))

      here : lines_by lane.number all ≡ are.0.answered
      here = rises_same 0 0 (lines_by lane.number all) are.0.answered (rises_filter (λ (one : AnsweredLine). one.clerk == lane.number) 0 all rises)
          (rises_of history seat.0.caller are.0.answered are.0.turns) found given

-- the transcript, whose lines are those of all lanes by rising turns
module _ {D W : Type 0} (basis : List Dated) (lanes : List Lane) (old new : Holding (OfficeOpening D W)) (seats : List (Seat D W))
    (lines : List TranscriptLine) (right : AreRightLanes lanes) (facts : PassFacts IsOfficeHistory new)
    (has_run : HasRunLanes old new (callers_in seats)) (are : AreLanesOf facts.lawful.0.opening new.seen basis lanes seats)
    (moved : IsPermutation (items_in seats) lines)
    (sorted : AreInOrder lines) where
  abbrev opening : Opening
  opening = facts.lawful.0.opening

  abbrev first_order : List AnsweredLine
  first_order = answered_in opening new.seen basis lanes seats are

  abbrev both : (ws : List AnsweredLine) × (IsPermutation first_order ws × AllZip (IsTold opening new.seen basis) ws lines)
  both = zip_moved_both (IsTold opening new.seen basis) first_order (items_in seats) lines (tells_in opening new.seen basis lanes seats are) moved

  abbrev answered : List AnsweredLine
  answered = both.0

  turns_same : map (λ (told : TranscriptLine). told.turn) lines ≡ firsts answered
  turns_same = turns_are opening new.seen basis answered lines both.1.1

  apart : IsDistinct nat_eq (map (λ (told : TranscriptLine). told.turn) lines)
  apart = subst (IsDistinct nat_eq) (sym turns_same)
      (IsDistinct-IsPermutation nat_eq flips (firsts first_order) (firsts answered) (IsPermutation-map (λ (one : AnsweredLine). one.first.0) first_order answered both.1.0)
      (distinct_in opening new.seen basis lanes seats are has_run.distinct))

  rising : AreRising (firsts answered)
  rising = subst AreRising turns_same (rising_sorted lines sorted apart)

  within : (told : TranscriptLine) → In told (items_in seats) → In told lines
  within = in_moved (items_in seats) lines moved

  from_first : (one : AnsweredLine) → In one answered → In one first_order
  from_first = in_moved answered first_order (IsPermutation-sym first_order answered both.1.0)

  pub has_answered : HasAnsweredLanes basis lanes old new (record { callers = callers_in seats; lines = lines })
  has_answered = record {
    pass = has_run;
    answers = lanes_answered opening new.seen basis lines lanes seats are within;
    answered = answered;
    lines = record {
      rising = rising;
      clerks = in_all (λ (one : AnsweredLine). Contains (numbers lanes) one.clerk) answered
          (λ one is. in_contains one.clerk (numbers lanes)
          (all_in (λ (z : AnsweredLine). In z.clerk (numbers lanes)) one first_order (clerks_in opening new.seen basis lanes seats are) (from_first one is)));
      turns = in_all (λ (one : AnsweredLine). AnswersLine (dry_of lines) one.line (turns_in one)) answered
          (λ one is. all_in (λ (z : AnsweredLine). AnswersLine (dry_of lines) z.line (turns_in z)) one first_order
          (answers_in opening new.seen basis lines lanes seats are within) (from_first one is));
      each = each_of opening new.seen basis answered (rises_rising answered rising) lanes seats are right.rising
          (λ z is among. from_first z is) (in_moved first_order answered both.1.0);
    };
    opened = facts.lawful.0;
    opening = facts.lawful.1;
    told = both.1.1;
    dry = are_dry lines apart;
  }

  pub answered_as : (callers : List ℕ) → callers ≡ callers_in seats → HasAnsweredLanes basis lanes old new (record { callers = callers; lines = lines })
  answered_as callers callers_are =
      subst (λ (cs : List ℕ). HasAnsweredLanes basis lanes old new (record { callers = cs; lines = lines })) (sym callers_are) has_answered

-- A line that was answered may be reported after those before it
use Rattle.lane_runner.proofs.Names.{◌≡◌, ℕ, ◌+◌, ◌≤◌, ◌==◌, Bool, true, false, List, [], ◌∷◌, ◌++◌, length, map, Some, slice_get, refl, sym, ◌∙◌, subst, append_assoc, length-append, arith, AllByRecursion, AllZip, flat_map, Dated, Entry, Line, Opening, AnswersLine, Placed, turns_of, Holding, PassFacts, IsOfficeHistory, OfficeOpening, TranscriptLine, AnsweredLine, turns_in, IsRightLine, IsTold, dry_of, HasAnswered}
use Rattle.lane_runner.specs.Telling.{AreBefore, IsLegallyTold, MayTellNext}
use Rattle.lane_runner.proofs.Places.{turns_from}
use Rattle.lane_runner.proofs.AnswerSteps.{all_later, same_opened}
use Rattle.lane_runner.proofs.MergeSteps.{Rises, RisesThrough, rises_turns, through_later, through_turns}

-- each turn of a caller has its entry at its place
turns_there : (front history : List Entry) (caller : ℕ)
    → AllByRecursion (λ (turn : Placed). slice_get (front ++ history) turn.0 ≡ Some turn.1) (turns_from (length front) history caller)
turns_there front [] caller = tt
turns_there front (entry ∷ history) caller =
    by (entry.caller == caller) refl
    (subst (λ n. AllByRecursion (λ (turn : Placed). slice_get (front ++ entry ∷ history) turn.0 ≡ Some turn.1) (turns_from n history caller)) long
    (subst (λ (h : List Entry). AllByRecursion (λ (turn : Placed). slice_get h turn.0 ≡ Some turn.1) (turns_from (length (front ++ entry ∷ [])) history caller)) whole
    (turns_there (front ++ entry ∷ []) history caller)))
  where
    long : length (front ++ entry ∷ []) ≡ length front + 1
    long = length-append front (entry ∷ [])

    whole : (front ++ entry ∷ []) ++ history ≡ front ++ entry ∷ history
    whole = append_assoc front (entry ∷ []) history

    here : (xs : List Entry) → slice_get (xs ++ entry ∷ history) (length xs) ≡ Some entry
    here [] = refl
    here (x ∷ xs) = here xs

    by : (b : Bool) → (entry.caller == caller) ≡ b
        → AllByRecursion (λ (turn : Placed). slice_get (front ++ entry ∷ history) turn.0 ≡ Some turn.1) (turns_from (length front + 1) history caller)
        → AllByRecursion (λ (turn : Placed). slice_get (front ++ entry ∷ history) turn.0 ≡ Some turn.1) (turns_from (length front) (entry ∷ history) caller)
    by true own later = rw own (here front, later)
    by false other later = rw other later

heads : {A : Type 0} (x y : A) (xs ys : List A) → x ∷ xs ≡ y ∷ ys → x ≡ y
heads x y xs ys same = cc

-- lines rise whose turns are the last of a caller's
rises_behind : (history : List Entry) (caller : ℕ) (before : List Placed) (lines : List AnsweredLine)
    → turns_of history caller ≡ before ++ flat_map turns_in lines → Rises 0 lines
rises_behind history caller before lines turns =
    rises_turns 0 lines (through_later 0 before (flat_map turns_in lines) (subst (RisesThrough 0) turns (through_turns 0 history caller)))

module _ (opening : Opening) (history : List Entry) (basis : List Dated) where
  -- lines that rise were reported by rising turns
  below_last : (n : ℕ) (answered : List AnsweredLine) (tolds : List TranscriptLine) (told : TranscriptLine)
      → AllZip (IsTold opening history basis) answered (tolds ++ told ∷ []) → Rises n answered → AreBefore tolds told.turn × (n ≤ told.turn)
  below_last n [] [] told all rises = absurd all
  below_last n [] (other ∷ tolds) told all rises = absurd all
  below_last n (one ∷ answered) [] told all rises = (tt, omega (arith, all.0.turn, rises.0))
  below_last n (one ∷ answered) (other ∷ tolds) told all rises =
      let rest = below_last (one.first.0 + 1) answered tolds told all.1 rises.1 in
      ((omega (arith, all.0.turn, rest.1), rest.0), omega (arith, rises.0, rest.1))

module _ {D W : Type 0} (basis : List Dated) (number : ℕ) (old new : Holding (OfficeOpening D W)) where
  told_behind : (lines : List Line) (tolds : List TranscriptLine) (told : TranscriptLine)
      → HasAnswered basis number lines old new (tolds ++ told ∷ []) → AreBefore tolds told.turn
  told_behind lines tolds told has =
      (below_last has.opened.opening new.seen basis 0 has.answered tolds told has.tells
      (rises_behind new.seen old.caller (turns_of old.seen old.caller) has.answered has.grows.turns)).0

  tellable : (line : Line) (told : TranscriptLine) → IsRightLine line → PassFacts IsOfficeHistory new
      → HasAnswered basis number (line ∷ []) old new (told ∷ []) → IsLegallyTold told
  tellable line told right facts has =
      by has.answered has.tells has.answers has.asked has.grows.turns
    where
      same : facts.lawful.0 ≡ has.opened
      same = same_opened facts.lawful.0 has.opened (sym facts.lawful.1 ∙ has.opening)

      is_history : IsOfficeHistory has.opened new.seen
      is_history = subst (λ (o : OfficeOpening D W). IsOfficeHistory o new.seen) same facts.lawful.2

      by : (answered : List AnsweredLine) → AllZip (IsTold has.opened.opening new.seen basis) answered (told ∷ [])
          → AllByRecursion (λ (one : AnsweredLine). AnswersLine (dry_of (told ∷ [])) one.line (turns_in one)) answered
          → map (λ (one : AnsweredLine). one.line) answered ≡ line ∷ []
          → turns_of new.seen old.caller ≡ turns_of old.seen old.caller ++ flat_map turns_in answered → IsLegallyTold told
      by [] tells answers asked turns = absurd tells
      by (one ∷ more) tells answers asked turns = record {
        opening = has.opened.opening;
        history = new.seen;
        legal = is_history.legal;
        valid = is_history.valid;
        basis = basis;
        dry = dry_of (told ∷ []);
        answered = one;
        placed = (all_later (λ (turn : Placed). slice_get new.seen turn.0 ≡ Some turn.1) (turns_of old.seen old.caller) (flat_map turns_in (one ∷ more))
            (subst (AllByRecursion (λ (turn : Placed). slice_get new.seen turn.0 ≡ Some turn.1)) turns (turns_there [] new.seen old.caller))).0;
        answers = answers.0;
        told_of = tells.0;
        right =
            let asked_is : one.line ≡ line = heads one.line line (map (λ (other : AnsweredLine). other.line) more) [] asked in
            subst IsRightLine (sym (tells.0.line ∙ asked_is)) right;
      }

-- the next line may follow those that the lane has reported
pub may_follow : {D W : Type 0} (basis : List Dated) (number : ℕ) (lines : List Line) (line : Line) (old mid new : Holding (OfficeOpening D W))
    (tolds : List TranscriptLine) (told : TranscriptLine) → PassFacts IsOfficeHistory new
    → HasAnswered basis number lines old new (tolds ++ told ∷ []) → HasAnswered basis number (line ∷ []) mid new (told ∷ []) → IsRightLine line
    → MayTellNext tolds told
may_follow basis number lines line old mid new tolds told facts all one right = record {
  behind = told_behind basis number old new lines tolds told all;
  tellable = tellable basis number mid new line told right facts one;
}

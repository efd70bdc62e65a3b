-- A script of one line: what answers it.
use Rattle.life_app.proofs.Names.{◌≡◌, ◌+◌, ◌++◌, ℕ, zero, suc, List, [], ◌∷◌, map, length, get_or, refl, ap, sym, ◌∙◌, subst, arith, AllByRecursion, flat_map, ◌==◌, Command, Entry}
use Rattle.std.specs.List.{Contains, enumerate_from, filter}
use Rattle.std.proofs.lemmas.Bool.{cond-true, eq-eqb}
use Rattle.lane_runner.specs.AnsweredLines.{AnsweredLine, AreLinesOf, lines_by, turns_in}
use Rattle.policy_machine.specs.Merge.{AnswersLine, Placed, turns_of}
use Rattle.policy_types.specs.declared.entry.Call.TheVariants.{Post}
use Rattle.policy_types.specs.declared.script.Line.{Line}
use Rattle.policy_types.specs.declared.script.Line.TheVariants.{Post as PostLine}

contains_one : (x y : ℕ) → Contains (x ∷ []) y → x ≡ y
contains_one x y (zero, below, same) = same
contains_one x y (suc k, below, same) = absurd (omega (arith, below))

-- all lines are clerk 1's, and all turns are the one caller's
lines_of_one : (lines : List AnsweredLine) → AllByRecursion (λ (one : AnsweredLine). Contains (1 ∷ []) one.clerk) lines → lines_by 1 lines ≡ lines
lines_of_one [] all = refl
lines_of_one (line ∷ lines) all =
    cond-true (line.clerk == 1) (line ∷ lines_by 1 lines) (lines_by 1 lines) (eq-eqb line.clerk 1 (sym (contains_one 1 line.clerk all.0)))
    ∙ ap (λ (ls : List AnsweredLine). line ∷ ls) (lines_of_one lines all.1)

turns_of_one : (history : List Entry) (n caller : ℕ) → AllByRecursion (λ (entry : Entry). Contains (caller ∷ []) entry.caller) history
    → filter (λ (placed : Placed). placed.1.caller == caller) (enumerate_from n history) ≡ enumerate_from n history
turns_of_one [] n caller all = refl
turns_of_one (entry ∷ history) n caller all =
    cond-true (entry.caller == caller) ((n, entry) ∷ filter (λ (placed : Placed). placed.1.caller == caller) (enumerate_from (n + 1) history))
    (filter (λ (placed : Placed). placed.1.caller == caller) (enumerate_from (n + 1) history))
    (eq-eqb entry.caller caller (sym (contains_one caller entry.caller all.0)))
    ∙ ap (λ (turns : List Placed). (n, entry) ∷ turns) (turns_of_one history (n + 1) caller all.1)

-- there is one line, and its turns are the history
pub record IsOneLine (asked : Line) (dry : List ℕ) (lines : List AnsweredLine) (history : List Entry) : Type 0 where
  pub line : AnsweredLine
  pub only : lines ≡ line ∷ []
  pub clerk : line.clerk ≡ 1
  pub asks : line.line ≡ asked
  pub answers : AnswersLine dry asked (turns_in line)
  pub turns : turns_in line ++ [] ≡ enumerate_from 0 history

module _ (asked : Line) (dry : List ℕ) (history : List Entry) where
  one_line : (lines : List AnsweredLine) → AllByRecursion (λ (one : AnsweredLine). Contains (1 ∷ []) one.clerk) lines
      → AllByRecursion (λ (one : AnsweredLine). AnswersLine dry one.line (turns_in one)) lines
      → map (λ (one : AnsweredLine). one.line) lines ≡ asked ∷ []
      → flat_map turns_in lines ≡ enumerate_from 0 history → IsOneLine asked dry lines history
  one_line [] clerks answers asks turns = cc
  one_line (line ∷ []) clerks answers asks turns =
      let is : line.line ≡ asked = ap (λ (ls : List Line). get_or ls 0 line.line) asks in
      record {
        line = line;
        only = refl;
        clerk = sym (contains_one 1 line.clerk clerks.0);
        asks = is;
        answers = subst (λ (l : Line). AnswersLine dry l (turns_in line)) is answers.0;
        turns = turns;
      }
  one_line (line ∷ other ∷ lines) clerks answers asks turns = absurd (let long = ap length asks in omega (arith, long))

  pub answered_once : (lines : List AnsweredLine) (callers : List ℕ)
      → AreLinesOf lines history ((record { number = 1; lines = asked ∷ [] }) ∷ []) callers dry
      → AllByRecursion (λ (entry : Entry). Contains callers entry.caller) history → IsOneLine asked dry lines history
  answered_once lines [] are theirs = absurd are.each
  answered_once lines (caller ∷ other ∷ callers) are theirs = absurd are.each.1
  answered_once lines (caller ∷ []) are theirs =
      let all : lines_by 1 lines ≡ lines = lines_of_one lines are.clerks in
      one_line lines are.clerks are.turns
      (subst (λ (ls : List AnsweredLine). map (λ (one : AnsweredLine). one.line) ls ≡ asked ∷ []) all are.each.0.0)
      (subst (λ (ls : List AnsweredLine). flat_map turns_in ls ≡ turns_of history caller) all are.each.0.1 ∙ turns_of_one history 0 caller theirs)

-- its first turn is the first of the history
pub first_turn : (first : Placed) (rest : List Placed) (history : List Entry) → (first ∷ rest) ++ [] ≡ enumerate_from 0 history
    → (entry : Entry) × ((later : List Entry) × (first ≡ (0, entry)) × (history ≡ entry ∷ later))
first_turn first rest [] same = cc
first_turn first rest (entry ∷ later) same = (entry, (later, ap (λ (turns : List Placed). get_or turns 0 first) same, refl))

-- a posting is answered by one turn, and there is no other
pub record IsOneTurn (command : Command) (placed : Placed) (rest : List Placed) (history : List Entry) : Type 0 where
  pub entry : Entry
  pub first : placed ≡ (0, entry)
  pub only : history ≡ entry ∷ []
  pub call : entry.call ≡ Post command
  pub alone : rest ≡ []

pub one_turn : (command : Command) (dry : List ℕ) (first : Placed) (rest : List Placed) (history : List Entry)
    → AnswersLine dry (PostLine command) (first ∷ rest) → (first ∷ rest) ++ [] ≡ enumerate_from 0 history → IsOneTurn command first rest history
one_turn command dry first (other ∷ rest) history answers same = absurd answers
one_turn command dry first [] [] answers same = cc
one_turn command dry first [] (entry ∷ []) answers same =
    let is : first ≡ (0, entry) = ap (λ (turns : List Placed). get_or turns 0 first) same in
    record { entry = entry; first = is; only = refl; call = subst (λ (placed : Placed). placed.1.call ≡ Post command) is answers; alone = refl }
one_turn command dry first [] (entry ∷ other ∷ history) answers same = absurd (let long = ap length same in omega (arith, long))

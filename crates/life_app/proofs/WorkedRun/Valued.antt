-- With 0 a valuation is told with its rows.
use Rattle.life_app.proofs.Names.{◌≡◌, ◌≤◌, ◌++◌, ℕ, ℤ, pos, List, [], ◌∷◌, take, get_or, refl, ap, sym, ◌∙◌, subst, inl, inr, arith, codes, digits, date_of, month_of, days_before_year, days_of_months, day_text, heading_text, AllZip, Dated, Command, Entry, Reply, Pinned, PinRefused, Row, Terminal, block_text, accepted_of, opened_on, reports_of, run_wording, IsToldLine, IsEnclosingRow, IsPromised, table_reserves, Opens, opens_to_one, hand_issue, Now, WroteAll, called, cut_disk, cut_file, looked_disk, value_lanes, value_script, stocked_shelf, output_of, two_auditors}
use Rattle.std.specs.List.{Contains, concat}
use Rattle.policy_machine.specs.History.{IsDue, IsLegalAfter}
use Rattle.policy_machine.specs.Merge.{Placed}
use Rattle.policy_types.specs.declared.entry.Call.{Call}
use Rattle.policy_types.specs.declared.entry.Call.TheVariants.{Pin}
use Rattle.policy_types.specs.declared.entry.PinRefusal.TheVariants.{PinsFull}
use Rattle.policy_types.specs.declared.policy.Policy.{Policy}
use Rattle.policy_types.specs.declared.script.Line.{Line}
use Rattle.policy_types.specs.declared.script.Line.TheVariants.{Value as ValueLine}
use Rattle.program_endings.specs.Replies.{AreAnswered}
use Rattle.lane_runner.specs.AnsweredLines.{AnsweredLine}
use Rattle.transcript_text.specs.Transcript.{IsToldText}
use Rattle.life_app.specs.WorkedRun.Refused.{ValuedByHand, unvalued_transcript}
use Rattle.life_app.proofs.WorkedRun.OneLine.{IsOneLine, answered_once, first_turn}
use Rattle.life_app.proofs.WorkedRun.Promise.{no_unrun}
use Rattle.life_app.proofs.WorkedRun.Refused.{all_written, opens_cut}
use Rattle.life_app.proofs.WorkedRun.Row.{honest_looked}

abbrev valuation : Line
valuation = ValueLine (pos 18262) Now 64

-- a pin of the first turn is of the one command, and none is refused
abbrev IsPinned : Reply → Type 0
IsPinned reply = (policies : ℕ) × (reply ≡ Pinned 1 policies)

is_pinned : (caller : ℕ) (reply : Reply) → IsDue (opened_on (hand_issue ∷ []) 0) [] caller Pin reply → IsPinned reply
is_pinned caller (Pinned position policies) due = (policies, ap (λ (n : ℕ). Pinned n policies) due.1)
is_pinned caller (PinRefused PinsFull) due = absurd (let no : 16 ≤ 0 = due in omega (arith, no))
is_pinned caller _ due = absurd due

-- where none is dry, the text is that of a block of rows
has_rows : (IsRow : ℤ → Policy → Row → Type 0) (clerk : ℕ) (line : Line) (reply : Reply) (commands : List Command) (IsDry : Type 0) (text : List ℕ)
    → IsToldText run_wording IsRow clerk line reply commands IsDry text → (IsDry → ⊥) → clerk ≡ 1 → line ≡ valuation → IsPinned reply
    → (rows : List Row) × (text ≡ block_text 1 (pos 18262) 1 Terminal rows)
has_rows IsRow clerk line reply commands IsDry text is wet one asks pinned =
    let told = subst (λ (r : Reply). IsToldText run_wording IsRow clerk valuation r commands IsDry text) pinned.1
    (subst (λ (l : Line). IsToldText run_wording IsRow clerk l reply commands IsDry text) asks is) in
    elim told [
      | inl dry ↦ absurd (wet dry.0)
      | inr rows ↦ (rows.1.0, rows.1.2 ∙ ap (λ (c : ℕ). block_text c (pos 18262) 1 Terminal rows.1.0) one)
    ]

one_block : (IsRow : ℤ → Policy → Row → Type 0) (commands : List Command) (history : List Entry) (dry : List ℕ) (line : AnsweredLine)
    (texts : List (List ℕ)) → AllZip (IsToldLine run_wording IsRow commands history dry) (line ∷ []) texts → dry ≡ [] → line.clerk ≡ 1
    → line.line ≡ valuation → IsPinned line.first.1.reply
    → (rows : List Row) × (texts ≡ block_text 1 (pos 18262) 1 Terminal rows ∷ [])
one_block IsRow commands history dry line [] told none one asks pinned = absurd told
one_block IsRow commands history dry line (text ∷ other ∷ texts) told none one asks pinned = absurd told.1
one_block IsRow commands history dry line (text ∷ []) told none one asks pinned =
    let wet : Contains dry line.first.0 → ⊥ = λ dried.
    (let never = subst (λ (d : List ℕ). Contains d line.first.0) none dried in absurd (let below = never.1 in omega arith)) in
    let rows = has_rows IsRow line.clerk line.line line.first.1.reply (commands ++ accepted_of (take line.first.0 history)) (Contains dry line.first.0)
    text told.0 wet one asks pinned in
    (rows.0, ap (λ (t : List ℕ). t ∷ []) rows.1)

-- of which the position stands where `nomemory` would
position_told : (rows : List Row) (reports : List ℕ) → get_or (concat (block_text 1 (pos 18262) 1 Terminal rows ∷ []) ++ reports) 19 0 ≡ 49
unfolding heading_text day_text date_of month_of days_before_year days_of_months digits
position_told rows reports = refl

module _ (basis : List Dated)
    (is : IsPromised called Opens run_wording table_reserves cut_disk looked_disk value_lanes basis two_auditors (output_of unvalued_transcript) 0) where
  reports : List ℕ
  reports = run_wording.reports (reports_of two_auditors (accepted_of is.history))

  wrote : WroteAll (output_of unvalued_transcript) (concat is.texts ++ reports) × AreAnswered is.history is.dry
  unfolding reports
  wrote = all_written looked_disk is.history is.dry is.texts reports (output_of unvalued_transcript) is.ending is.exits is.wrote

  one : IsOneLine valuation is.dry is.lines is.history
  one = answered_once valuation is.dry is.history is.lines is.callers is.answered is.theirs

  pinned : IsPinned one.line.first.1.reply
  pinned =
      let first = first_turn one.line.first one.line.rest is.history one.turns in
      let due = subst (λ (h : List Entry). IsLegalAfter (opened_on is.commands 0) [] h) first.1.2 is.legal.due in
      let called_so : first.0.call ≡ Pin = ap (λ (placed : Placed). placed.1.call) (sym first.1.1) ∙ one.answers.0 in
      let asked = subst (λ (c : Call). IsDue (opened_on is.commands 0) [] first.0.caller c first.0.reply) called_so due.0 in
      let opened = subst (λ (cs : List Command). IsDue (opened_on cs 0) [] first.0.caller Pin first.0.reply)
      (opens_to_one cut_file is.commands (hand_issue ∷ []) (is.opened honest_looked) opens_cut) asked in
      let found = is_pinned first.0.caller first.0.reply opened in
      (found.0, ap (λ (placed : Placed). placed.1.reply) first.1.1 ∙ found.1)

  never : ⊥
  never =
      let block = one_block (IsEnclosingRow table_reserves basis) is.commands is.history is.dry one.line is.texts
      (subst (λ (ls : List AnsweredLine). AllZip (IsToldLine run_wording (IsEnclosingRow table_reserves basis) is.commands is.history is.dry) ls is.texts) one.only is.told)
      wrote.1.1 one.clerk one.asks pinned in
      let same : unvalued_transcript ≡ concat (block_text 1 (pos 18262) 1 Terminal block.0 ∷ []) ++ reports =
      subst (λ (ts : List (List ℕ)). WroteAll (output_of unvalued_transcript) (concat ts ++ reports)) block.1 wrote.0 in
      let letter : 110 ≡ 49 = ap (λ (text : List ℕ). get_or text 19 0) same ∙ position_told block.0 reports in
      omega (arith, letter)

pub valued_by_hand : ValuedByHand
valued_by_hand basis (inl is) = never basis is
valued_by_hand basis (inr is) = no_unrun looked_disk (output_of unvalued_transcript) (codes "b.csv") value_script stocked_shelf is

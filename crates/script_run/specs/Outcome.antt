-- How a run ends that read its script: the history that the text is about, what was written, and the disk
use Rattle.std.specs.Prelude.{◌≡◌, ℕ, ◌⊎◌, List, ◌++◌, nat_eq}
use Rattle.std.specs.List.{Contains, IsDistinct}
use Rattle.script_run.specs.Names.{AllByRecursion, Dated, AllZip, TakenPiece, Ghosts, Lane, Ending, Stream, Command, Entry, IsLegal, accepted_of, opened_on, Auditor, reports_of, AnsweredLine, AreLinesOf}
use Rattle.policy_value.specs.declared.worth.Measure.TheVariants.{Terminal}
use Rattle.policy_value.specs.Rows.{IsValuedRow}
use Rattle.office_state.specs.Images.{IsLeftAlone, IsLeftBy}
use Rattle.office_state.specs.Journals.{Opens}
use Rattle.program_endings.specs.Replies.{ArePins}
use Rattle.program_endings.specs.Refusals.{EndsNoOffice}
use Rattle.transcript_text.specs.Transcript.{IsToldLine, run_wording}
use Rattle.script_run.specs.Shown.{AreSafeWhenShown}
use Rattle.script_run.specs.Texts.{WroteAsEnded}

-- The office was opened on the commands of the disk's file. The lanes' lines are answered once, in order, by a legal
-- history from there. The text is that of the answered lines, and then of the reports that the watchers give of what
-- was accepted; and what is shown of it is safe by then. The disk holds what was accepted. The pins of the valuations
-- that were refused memory are listed as out of memory.
pub record IsRunOf {D : Type 0} (g : Ghosts D) (old new : D) (lanes : List Lane) (basis : List Dated)
    (auditors : List Auditor) (output : Stream) (ending : Ending) : Type 0 where
  pub commands : List Command
  pub history : List Entry
  pub opened : g.honest new → Opens (g.reads old) commands
  pub legal : IsLegal (opened_on commands (g.faults old)) history
  pub callers : List ℕ
  pub dry : List ℕ
  pub pins : ArePins history dry
  pub lines : List AnsweredLine
  pub distinct : IsDistinct nat_eq callers
  pub theirs : AllByRecursion (λ entry. Contains callers entry.caller) history
  pub answered : AreLinesOf lines history lanes callers dry
  pub texts : List (List ℕ)
  pub told : AllZip (IsToldLine run_wording (λ on. IsValuedRow basis on Terminal) commands history dry) lines texts
  pub wrote : WroteAsEnded g old new history dry texts (run_wording.reports (reports_of auditors (accepted_of history))) output ending
  pub shown : g.honest new → (run : List TakenPiece) × (output.pieces_after ≡ run ++ output.pieces_before)
      × AreSafeWhenShown g Opens new commands history lines texts run
  pub disk : IsLeftBy g old new (opened_on commands (g.faults old)) history

-- How a run ends that read its script, and has the basis that it needs: as above; or no office was opened, or no
-- posting was made since memory was refused, which a line says, and the disk is left alone.
abbrev pub EndsScript : {D : Type 0} → Ghosts D → D → D → List Lane → List Dated → List Auditor → Stream → Ending → Type 0
EndsScript g old new lanes basis auditors output ending =
    IsRunOf g old new lanes basis auditors output ending ⊎ (EndsNoOffice g old new output ending × IsLeftAlone g old new)

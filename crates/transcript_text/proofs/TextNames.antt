-- Short names for the texts of a run
use Rattle.std.specs.Prelude.{◌≡◌, ◌⊎◌, ℕ, ℤ, List, take}
use Rattle.transcript_text.specs.Names.{AllZip, Line, Report, block_text, enumerate_from, flat_map}
use Rattle.basis_book.specs.Dated.{Dated}
use Rattle.policy_types.specs.declared.command.Command.{Command}
use Rattle.policy_types.specs.declared.entry.Entry.{Entry}
use Rattle.policy_types.specs.declared.entry.Reply.{Reply}
use Rattle.policy_machine.specs.Book.{book}
use Rattle.policy_machine.specs.History.{Opening}
use Rattle.policy_value.specs.declared.worth.Measure.TheVariants.{Terminal}
use Rattle.policy_value.specs.declared.worth.Row.{Row}
use Rattle.policy_value.specs.Rows.{IsValuedRow}
use Rattle.lane_runner.specs.AnsweredLines.{AnsweredLine}
use Rattle.transcript_text.specs.Transcript.{IsToldLine, IsToldText, run_wording}
use Rattle.transcript_text.specs.Lines.{watcher_text}
use Rattle.transcript_text.specs.Lines.{unvalued_text}

abbrev pub IsValuedText : ℕ → ℤ → List Command → List Dated → ℕ → (IsDry : Type 0) → List ℕ → Type 0
IsValuedText clerk on commands basis position IsDry text =
    (IsDry × (text ≡ unvalued_text clerk on))
    ⊎ ((IsDry → ⊥) × ((rows : List Row) × AllZip (IsValuedRow basis on Terminal) (book (take position commands)) rows
    × (text ≡ block_text clerk on position Terminal rows)))

-- the text of a line by its reply, with the program's words and rows
abbrev pub IsReplyText : ℕ → Line → Reply → List Command → List Dated → (IsDry : Type 0) → List ℕ → Type 0
IsReplyText clerk line reply commands basis IsDry text =
    IsToldText run_wording (λ on. IsValuedRow basis on Terminal) clerk line reply commands IsDry text

abbrev pub IsLineText : Opening → List Entry → List Dated → List ℕ → AnsweredLine → List ℕ → Type 0
IsLineText opening history basis dry answered text =
    IsToldLine run_wording (λ on. IsValuedRow basis on Terminal) opening.commands history dry answered text

-- the lines of these reports, whose numbers go on from this one
abbrev pub watcher_texts : ℕ → List Report → List ℕ
watcher_texts number reports =
    flat_map (λ (numbered : ℕ × Report). watcher_text numbered.0 numbered.1) (enumerate_from number reports)

-- The texts of a run's wording, each under a name of its own
use Rattle.std.specs.Prelude.{ℕ, ℤ, List, [], ◌∷◌, codes, decimal}
use Rattle.policy_types.specs.declared.command.Command.{Command}
use Rattle.policy_types.specs.declared.entry.Reply.{Reply}
use Rattle.policy_types.specs.declared.entry.PinRefusal.{PinRefusal}
use Rattle.transcript_text.specs.Names.{Report, line_of}
use Rattle.transcript_text.specs.Transcript.{run_wording}

-- the line of a posting of a lane
abbrev pub posting_text : ℕ → Command → Reply → List ℕ
posting_text clerk command reply = run_wording.posting clerk command reply

-- the line of a trim
abbrev pub trim_text : ℕ → ℕ → List ℕ
trim_text clerk floor = run_wording.trim clerk floor

-- the line of a valuation that was refused
abbrev pub unpinned_text : ℕ → ℤ → PinRefusal → List ℕ
unpinned_text clerk on refusal = run_wording.unpinned clerk on refusal

-- the line of a valuation that was refused memory
abbrev pub unvalued_text : ℕ → ℤ → List ℕ
unvalued_text clerk on = run_wording.unvalued clerk on

-- the line of a watcher's report: the watcher's number, how many commands were noted, and the watcher's own number of them
abbrev pub watcher_text : ℕ → Report → List ℕ
watcher_text number report = line_of (codes "watcher") (decimal number ∷ decimal report.seen ∷ decimal report.tally ∷ [])

-- the lines of all watchers' reports
abbrev pub reports_text : List Report → List ℕ
reports_text reports = run_wording.reports reports

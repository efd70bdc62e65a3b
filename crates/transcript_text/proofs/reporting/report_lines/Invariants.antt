use Rattle.transcript_text.proofs.Names.{◌≡◌, ◌+◌, ◌++◌, drop, reports_text, watcher_texts}
use Rattle.transcript_text.proofs.reporting.report_lines.Given as goal

-- the lines so far and those of the reports that are left are all
abbrev pub invariant-loop-report : goal.invariant-loop-report
invariant-loop-report l =
    (l.number ≡ l.report-index)
    × (l.text.items ++ watcher_texts (l.report-index + 1) (drop l.report-index l.reports) ≡ reports_text l.reports)

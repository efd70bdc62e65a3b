-- What was written of the texts of a run's lines, and of the watchers' reports after them
use Rattle.std.specs.Prelude.{◌≡◌, ◌⊎◌, ◌≤◌, ℕ, List, ◌++◌, length, take}
use Rattle.script_run.specs.Names.{concat, AppendsPart, Rose, Ghosts, Entry, Stream, WroteAll, WrotePart, Ending, Done, WriteFault, DiskFault, NoMemory}
use Rattle.program_endings.specs.Replies.{AreAnswered, HaveAFault, LackMemory}

-- What was written of the lines' texts and of the reports after them, and why no more. All was written, and each
-- posting and valuation was answered, or the disk failed in a posting, or memory was refused for one. Or a prefix and
-- not all was written, since the output failed. Or the texts before one for which memory was refused were written,
-- and the output had no fault.
abbrev pub WroteAsEnded : {D : Type 0} → Ghosts D → D → D → List Entry → List ℕ → List (List ℕ) → List ℕ → Stream → Ending → Type 0
WroteAsEnded g old new history dry texts reports output Done =
    WroteAll output (concat texts ++ reports) × AreAnswered history dry
WroteAsEnded g old new history dry texts reports output DiskFault =
    WroteAll output (concat texts ++ reports) × HaveAFault history × Rose (g.faults old) (g.faults new)
WroteAsEnded g old new history dry texts reports output WriteFault = WrotePart output (concat texts ++ reports)
WroteAsEnded g old new history dry texts reports output (NoMemory lack) =
    (WroteAll output (concat texts ++ reports) × LackMemory history dry)
    ⊎ ((output.faults_after ≡ output.faults_before) × AppendsPart output.before output.after (concat texts ++ reports)
    × ((many : ℕ) × (many ≤ length texts) × WroteAll output (concat (take many texts))))
WroteAsEnded _ _ _ _ _ _ _ _ _ = ⊥

-- How `state` ends: what was written of the commands of the disk's file, and the disk
use Rattle.std.specs.Prelude.{◌≡◌, ℕ, List, pos}
use Rattle.stating_modes.specs.Names.{Ghosts, Command, HoldsStill, Stream, Ending, sum_of, ledger_of}
use Rattle.program_endings.specs.Texts.{EndsReadOnly}

-- how `state` ends: the text of the commands of the disk's file was written, their balances add up to 0, and the disk
-- holds them still; or a line says why not
abbrev pub EndsState : {D : Type 0} → Ghosts D → D → D → (List Command → List ℕ) → Stream → Ending → Type 0
EndsState g old new text_of output ending =
    EndsReadOnly g old new (λ Wrote. HoldsStill g old new (λ commands. Wrote (text_of commands) × (sum_of (ledger_of commands) ≡ pos 0)))
    output ending

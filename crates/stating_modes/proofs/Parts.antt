-- Names for the parts of how the modes end
use Rattle.std.specs.Prelude.{◌≡◌, ℕ, List, [], ◌∷◌, pos, codes, decimal, length}
use Rattle.money_ledgers.specs.Balances.{balances}
use Rattle.stating_modes.specs.Names.{Ghosts, HoldsStill, Command, Snapshot, CheckpointBytes, line_of, sum_of, ledger_of, book}
use Rattle.stating_modes.specs.Books.{books_text}
use Rattle.stating_modes.specs.Telling.{TellsSnapshot}
use Rattle.stating_modes.specs.TwoDisks.{TwoDisks}

-- the books of commands
abbrev pub books_of : List Command → List ℕ
books_of commands = books_text (book commands) (ledger_of commands) (length commands)

-- the books of a snapshot
abbrev pub snapshot_text : Snapshot → List ℕ
snapshot_text s = books_text s.book (balances s.ledger) s.position

-- the text of the commands of the disk's file was written
abbrev pub IsStated : {D : Type 0} → Ghosts D → D → D → (List Command → List ℕ) → (List ℕ → Type 0) → Type 0
IsStated g old new text_of Wrote = HoldsStill g old new (λ commands. Wrote (text_of commands) × (sum_of (ledger_of commands) ≡ pos 0))

-- the text of a snapshot was
abbrev pub Writes : (Snapshot → List ℕ) → (List ℕ → Type 0) → Snapshot → Type 0
Writes text_of Wrote s = Wrote (text_of s)

-- a snapshot was saved, and its line written
abbrev pub Saves : {D E : Type 0} → Ghosts E → TwoDisks D E → (List ℕ → Type 0) → Snapshot → Type 0
Saves e disks Wrote s =
    Wrote (line_of (codes "checkpoint") (decimal s.position ∷ []))
    × (e.honest disks.kept → (image : List ℕ) → e.may_leave disks.kept image → CheckpointBytes image s)

-- What `state` writes of a snapshot, and how it ends over two disks
use Rattle.std.specs.Prelude.{ℕ, List, length}
use Rattle.stating_modes.specs.Names.{Ghosts, OpensToBodies, IsLeftAlone, Stream, Ending, Done, WriteFault, TakesSteps}
use Rattle.money_ledgers.specs.Balances.{balances}
use Rattle.stating_modes.specs.Books.{books_text}
use Rattle.stating_modes.specs.Telling.{EndsTelling}
use Rattle.stating_modes.specs.TwoDisks.{IsOnlyRead, TwoDisks}

-- the snapshot's books were written, or a line says why not; and the second disk was not written to
pub record EndsStateKept {D E : Type 0} (g : Ghosts D) (e : Ghosts E) (disks : TwoDisks D E) (output : Stream)
    (ending : Ending) : Type 0 where
  pub telling : EndsTelling g e disks (λ Wrote s. Wrote (books_text s.book (balances s.ledger) s.position)) output ending
  pub first : IsLeftAlone g disks.old disks.new
  pub second : IsOnlyRead e disks.second disks.kept

-- the text was written, whole or a prefix of it
abbrev pub IsStateTold : Ending → Type 0
IsStateTold Done = Unit {0}
IsStateTold WriteFault = Unit {0}
IsStateTold _ = ⊥

-- one step was taken for each record of the journal from the checkpoint's position on, if the file has a checkpoint
-- that isn't above the journal's count; else for each record
pub record TakesFewSteps (journal checkpoint : List ℕ) (before now : ℕ) : Type 0 where
  pub bodies : List (List ℕ)
  pub opened : OpensToBodies journal bodies
  pub taken : TakesSteps checkpoint (length bodies) before now

-- it is so if both disks come back honest
abbrev pub ReadsFew : {D E : Type 0} → Ghosts D → Ghosts E → TwoDisks D E → ℕ → ℕ → Type 0
ReadsFew g e disks before now =
    g.honest disks.new → e.honest disks.kept → TakesFewSteps (g.reads disks.old) (e.reads disks.second) before now

-- What opening a file does.
use Rattle.std.specs.Prelude.{◌≡◌, ◌⊎◌, ℕ, ◌≤◌, List, []}
use Rattle.posting_journal.specs.Names.{Only, Ghosts}
use Rattle.posting_journal.specs.Creation.{IsUnfinished, OpensToBodies}
use Rattle.posting_journal.specs.Runs.{Leaves, LooksOn}

-- while a file is opened: it is as it was, or a creation that goes on or has just ended
abbrev pub IsOpenedOn : List ℕ → List ℕ → Type 0
IsOpenedOn before image = (image ≡ before) ⊎ (IsUnfinished before × OpensToBodies image [])

-- The disk as it was at the end of a sync: it was honest and read as before the call, and a crash then left exactly
-- what was read.
pub record IsSynced {D : Type 0} (g : Ghosts D) (old synced new : D) : Type 0 where
  pub honest : g.honest synced
  pub reads : g.reads synced ≡ g.reads old
  pub safe : Only (g.reads synced) (g.may_leave synced)
  pub later : g.clock old ≤ g.clock synced
  pub passed : g.clock synced ≤ g.clock new

-- From the end of a sync on a crash leaves the file as it was, or a creation.
pub record HasSynced {D : Type 0} (g : Ghosts D) (old new : D) : Type 0 where
  pub synced : D
  pub at_sync : IsSynced g old synced new
  pub since : (image : List ℕ) → g.left_since new (g.clock synced) image → IsOpenedOn (g.reads old) image

-- A disk that comes back honest: since the call a crash leaves what it might have left at the call, or the file as it
-- was, or a creation. Either the disk was only looked at, or a sync of it succeeded.
pub record OpensOn {D : Type 0} (g : Ghosts D) (old new : D) : Type 0 where
  pub ever : Leaves g old new (λ image. g.may_leave old image ⊎ IsOpenedOn (g.reads old) image)
  pub synced : LooksOn g old new ⊎ HasSynced g old new
  -- only an unfinished creation is written to
  pub unwritten : ¬ IsUnfinished (g.reads old) → LooksOn g old new

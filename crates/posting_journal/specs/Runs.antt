-- What a run of calls does to a disk that is honest after it, and so was before it.
use Rattle.std.specs.Prelude.{◌≡◌, ◌⊎◌, ℕ, ◌≤◌, List}
use Rattle.posting_journal.specs.Names.{Only, Elapses, LeavesOnly, Ghosts}

-- Nothing was written: what is read stays, and there is no new image. A crash since a moment might have left what it
-- might have left before, or what it might leave at old.
pub record LooksOn {D : Type 0} (g : Ghosts D) (old new : D) : Type 0 where
  pub reads : g.reads new ≡ g.reads old
  pub images : (image : List ℕ) → g.may_leave new image → g.may_leave old image
  pub later : g.clock old ≤ g.clock new
  pub nothing_else : (moment : ℕ) (image : List ℕ) → moment ≤ g.clock old → g.left_since new moment image
      → g.left_since old moment image ⊎ g.may_leave old image
  pub keeps : (moment : ℕ) (image : List ℕ) → moment ≤ g.clock old → g.left_since old moment image
      → g.left_since new moment image

-- a disk was only looked at, if it comes back honest
pub record IsLookedAt {D : Type 0} (g : Ghosts D) (old new : D) : Type 0 where
  pub honesty : g.honest new → g.honest old
  pub looks : g.honest new → LooksOn g old new

-- a crash since old leaves what has P, or what it might have left before
abbrev pub Passes : {D : Type 0} → Ghosts D → D → D → (List ℕ → Type 0) → Type 0
Passes g old new P = Elapses (g.clock old) (g.clock new) (g.left_since old) (g.left_since new) P

-- what a crash may leave now is what is read
abbrev pub IsSafe : {D : Type 0} → Ghosts D → D → Type 0
IsSafe g disk = Only (g.reads disk) (g.may_leave disk)

-- and what is read has P
abbrev pub IsSafeWith : {D : Type 0} → Ghosts D → (List ℕ → Type 0) → D → Type 0
IsSafeWith g P disk = P (g.reads disk) × IsSafe g disk

-- a crash at any moment since old leaves an image that has P
abbrev pub Leaves : {D : Type 0} → Ghosts D → D → D → (List ℕ → Type 0) → Type 0
Leaves g old new P = LeavesOnly g.clock g.left_since old new P

-- What the images of a disk hold, on which an office was opened
use Rattle.std.specs.Prelude.{◌≡◌, ◌≢◌, ◌⊎◌, ℕ, ◌≤◌, List, [], ◌∷◌, ◌++◌, None}
use Rattle.office_state.specs.Names.{AllByRecursion, filter_map, last_or, Ghosts, Command, Post, Reply, Accepted, Faulted, Entry, Opening, accepted_of, commands_after, fault_of, IsUnfinished, LooksOn, IsSynced}
use Rattle.std.specs.Option.{unwrap_or}
use Rattle.office_state.specs.Journals.{JournalBytes, Opens}

-- a posting of the command was answered `fault` when just these were accepted
pub record WasFaulted (history : List Entry) (held : List Command) (command : Command) : Type 0 where
  pub before : List Entry
  pub caller : ℕ
  pub count : ℕ
  pub after : List Entry
  pub turns : history ≡ before ++ (record { caller = caller; call = Post command; reply = Faulted count }) ∷ after
  pub then : accepted_of before ≡ held

-- the image opens to the commands from before and these, and to at most one more, whose posting was answered `fault`
-- when these were accepted
abbrev pub IsThere : (List ℕ → List Command → Type 0) → List Command → List Entry → List Command → List ℕ → Type 0
IsThere Opens commands history held image =
    Opens image (commands ++ held)
    ⊎ ((command : Command) × WasFaulted history held command × Opens image (commands ++ held ++ command ∷ []))

-- and so it is with a prefix of what the history accepted
abbrev pub IsFrontThere : (List ℕ → List Command → Type 0) → List Command → List Entry → List ℕ → Type 0
IsFrontThere Opens commands history image =
    (held rest : List Command) × (accepted_of history ≡ held ++ rest) × IsThere Opens commands history held image

-- the moments since which the commands are safe: a crash since each moment leaves at least the commands held by then,
-- and the one of that moment
abbrev pub AreSafeSince : {D : Type 0} → Ghosts D → D → List Command → List Command → List ℕ → Type 0
AreSafeSince g disk held [] [] = Unit {0}
AreSafeSince g disk held (command ∷ commands) (moment ∷ moments) =
    (moment ≤ g.clock disk)
    × ((image : List ℕ) → g.left_since disk moment image → (more : List Command) × Opens image (held ++ command ∷ [] ++ more))
    × AreSafeSince g disk (held ++ command ∷ []) commands moments
AreSafeSince _ _ _ _ _ = ⊥

-- The disk as it stood after these turns: a crash then left the file of exactly their commands, and whatever a crash
-- leaves since then opens to these commands, and perhaps to more.
pub record HasKept {D : Type 0} (g : Ghosts D) (begun new : D) (opening : Opening) (turns : List Entry) : Type 0 where
  pub stood : D
  pub honest : g.honest stood
  pub later : g.clock begun ≤ g.clock stood
  pub passed : g.clock stood ≤ g.clock new
  pub images : (image : List ℕ) → g.may_leave stood image → IsThere JournalBytes opening.commands turns (accepted_of turns) image
  pub since : (image : List ℕ) → g.left_since new (g.clock stood) image
      → (more : List Command) × Opens image (commands_after opening turns ++ more)

-- the disk's count of faults after the history: that of the last posting that faulted, else that of the opening
abbrev pub faults_after : Opening → List Entry → ℕ
faults_after opening history =
    unwrap_or (last_or None (filter_map (λ (entry : Entry). fault_of entry.reply) history)) opening.faults

-- the file opens to some commands, and so does the image
abbrev pub OpensAlike : List ℕ → List ℕ → Type 0
OpensAlike bytes image = (commands : List Command) × Opens bytes commands × Opens image commands

-- A disk on which no office ran, or on which an office ran at which no posting was accepted or met a fault. If the
-- disk comes back honest, it was honest before. Since the call a crash leaves what it might have left before, or what
-- opens to the commands to which the file opened. Either the disk was only looked at, or, since the end of a sync, a
-- crash leaves what was read before the call, or what opens alike. Only an unfinished creation is written to.
pub record IsLeftAlone {D : Type 0} (g : Ghosts D) (old new : D) : Type 0 where
  pub honesty : g.honest new → g.honest old
  pub unwritten : g.honest new → ¬ IsUnfinished (g.reads old) → LooksOn g old new
  pub since : g.honest new → (image : List ℕ) → g.left_since new (g.clock old) image
      → g.may_leave old image ⊎ OpensAlike (g.reads old) image
  pub synced : g.honest new → LooksOn g old new
      ⊎ ((mid : D) × IsSynced g old mid new × ((image : List ℕ) → g.left_since new (g.clock mid) image
      → (image ≡ g.reads old) ⊎ OpensAlike (g.reads old) image))

-- no posting of the history was accepted, and none met a fault of the disk
abbrev pub AreQuiet : List Entry → Type 0
AreQuiet history =
    AllByRecursion (λ (entry : Entry). (fault_of entry.reply ≡ None) × ((position : ℕ) → entry.reply ≢ Accepted position)) history

-- The disk on which an office was opened, and what became of it in the history. If it comes back honest, it was
-- honest before, and its file had opened to the commands of the opening. A crash now leaves these and all that was
-- accepted, in a journal. Since the opening began, a crash leaves what it might have left before, or a prefix of
-- that; since the end of a sync, only the latter. What was accepted stays. If no posting was accepted or met a fault,
-- the disk is left alone.
pub record IsLeftBy {D : Type 0} (g : Ghosts D) (old new : D) (opening : Opening) (history : List Entry) : Type 0 where
  pub honesty : g.honest new → g.honest old
  pub faults : g.faults new ≡ faults_after opening history
  pub opened : g.honest new → Opens (g.reads old) opening.commands
  pub now : g.honest new → (image : List ℕ) → g.may_leave new image
      → IsThere JournalBytes opening.commands history (accepted_of history) image
  pub since : g.honest new → (image : List ℕ) → g.left_since new (g.clock old) image
      → g.may_leave old image ⊎ IsFrontThere Opens opening.commands history image
  pub synced : g.honest new → (mid : D) × IsSynced g old mid new
      × ((image : List ℕ) → g.left_since new (g.clock mid) image → IsFrontThere Opens opening.commands history image)
  pub kept : g.honest new → (front rest : List Entry) → history ≡ front ++ rest → HasKept g old new opening front
  pub alone : AreQuiet history → IsLeftAlone g old new

-- What a journal and its disk stand for, and what the calls on it do.
use Rattle.std.specs.Prelude.{◌≡◌, ℕ, Bool, true, false, List, [], ◌∷◌, ◌++◌, length, take, drop, slice_index, slice_index_or, Result, IfOk, OnOk, OnErr}
use Rattle.outside_io.specs.declared.disks.Disk.{Ghosts}
use Rattle.posting_journal.specs.Files.{IsJournal, IsStaged, IsBeforeOrAfter}
use Rattle.posting_journal.specs.Layout.{body_place, gate_place}
use Rattle.posting_journal.specs.Runs.{IsLookedAt, IsSafe, Leaves}
use Rattle.posting_journal.specs.declared.journal.Journal.{Journal}

-- what a caller sees of a journal: how many records there are, whether one can be appended without a repair, and its
-- disk
abbrev pub count_of : {D : Type 0} {g : Ghosts D} → Journal D g → ℕ
count_of journal = journal.count

abbrev pub is_clean : {D : Type 0} {g : Ghosts D} → Journal D g → Bool
is_clean journal = journal.clean

abbrev pub disk_of : {D : Type 0} {g : Ghosts D} → Journal D g → D
disk_of journal = journal.disk

-- A clean journal's file is that of the bodies; if a fault left it unclean, it may hold one body more.
abbrev pub IsKept : Bool → List (List ℕ) → List ℕ → List ℕ → Type 0
IsKept true bodies faulted bytes = IsJournal bytes bodies
IsKept false bodies faulted bytes = IsStaged bytes bodies faulted

-- The journal is that of these bodies, on an honest disk, both in what is read and in each image that a crash may
-- leave.
pub record StandsFor {D : Type 0} {g : Ghosts D} (journal : Journal D g) (bodies : List (List ℕ))
    (faulted : List ℕ) : Type 0 where
  pub count : journal.count ≡ length bodies
  pub reads : IsKept journal.clean bodies faulted (g.reads journal.disk)
  pub images : (image : List ℕ) → g.may_leave journal.disk image → IsKept journal.clean bodies faulted image

-- A journal whose disk was only looked at is what it was.
pub record StaysAs {D : Type 0} {g : Ghosts D} (old new : Journal D g) : Type 0 where
  pub counted : count_of new ≡ count_of old
  pub clean : is_clean new ≡ is_clean old
  pub disk : IsLookedAt g (disk_of old) (disk_of new)
  pub stands : (bodies : List (List ℕ)) (last : List ℕ) → g.honest (disk_of new)
      → StandsFor old bodies last → StandsFor new bodies last

-- The body of record n, as the disk reads it: that of a list of bodies for which the journal stands.
pub record ReadsBody {D E : Type 0} {g : Ghosts D} (old new : Journal D g) (n : ℕ) (result : Result (List ℕ) E) : Type 0 where
  pub read : g.honest new.disk → IfOk result (λ body. body ≡ take 64 (drop (body_place n) (g.reads old.disk)))
  pub nth : (bodies : List (List ℕ)) (faulted : List ℕ) → g.honest new.disk → StandsFor old bodies faulted
      → IfOk result (λ body. body ≡ slice_index_or bodies n [])

-- A journal of these bodies has one more, or may have it. A crash at any moment of the call leaves the bodies from
-- before it, or those and the new one.
pub record AppendsOn {D T E : Type 0} {g : Ghosts D} (old new : Journal D g) (bodies : List (List ℕ)) (body : List ℕ)
    (result : Result T E) : Type 0 where
  pub done : OnOk result (StandsFor new (bodies ++ body ∷ []) [] × IsSafe g new.disk)
  pub failed : OnErr result (StandsFor new bodies body)
  pub moments : Leaves g old.disk new.disk (IsBeforeOrAfter bodies body)

-- A journal of these bodies no longer has the record of the fault, or may still have it. A crash at any moment of the
-- call leaves the bodies, or those and the one of the fault.
pub record RepairsOn {D T E : Type 0} {g : Ghosts D} (old new : Journal D g) (bodies : List (List ℕ)) (faulted : List ℕ)
    (result : Result T E) : Type 0 where
  pub done : OnOk result (StandsFor new bodies [] × IsSafe g new.disk)
  pub closed : OnOk result (slice_index (g.reads new.disk) (gate_place (length bodies)) ≡ 0)
  pub failed : OnErr result (StandsFor new bodies faulted)
  pub moments : Leaves g old.disk new.disk (IsBeforeOrAfter bodies faulted)

-- What a mode needs of the input, the basis and the disks
use Rattle.std.specs.Prelude.{◌≡◌, ℕ, ◌⊎◌, true, List, None, codes}
use Rattle.life_app.specs.Names.{Rose, Files, Ghosts, Lane, Dated, IsBasis, Mode, Run, Value, Project, State, Checkpoint, Load, Input, IsWholeInput, Shelving, IsReadAs, asks_for_values, TellsTruth}

-- the mode needs the basis of this name; `run` does only if a line of its script asks for values
abbrev pub NeedsBasis : Mode → (Asks : Type 0) → List ℕ → Type 0
NeedsBasis (Run basis) Asks name = (name ≡ basis) × Asks
NeedsBasis (Value on at workers basis measure) Asks name = name ≡ basis
NeedsBasis (Project on years workers basis) Asks name = name ≡ basis
NeedsBasis (Load seed count lanes workers) Asks name = name ≡ codes "basis.csv"
NeedsBasis _ _ _ = ⊥

-- the whole input is a script of these lanes, and didn't fail
pub record HasScript (input : Input) (lanes : List Lane) : Type 0 where
  pub bytes : List ℕ
  pub whole : IsWholeInput input bytes
  pub read : IsReadAs bytes lanes
  pub held : ¬ Rose input.faults_before input.faults_after

-- files that agree with the shelf's answers are so, and the shelf didn't fail
pub record ShelfHas (shelf : Shelving) (AreSo : Files → Type 0) : Type 0 where
  pub files : Files
  pub agree : shelf.Agrees files
  pub so : AreSo files
  pub held : ¬ Rose shelf.faults_before shelf.faults_after

-- The file of a disk between two moments: what it read as and what it reads as, whether the disk comes back honest, and
-- the disk's counts of faults.
pub record Filing : Type 1 where
  pub before : List ℕ
  pub after : List ℕ
  pub Honest : Type 0
  pub faults_before : ℕ
  pub faults_after : ℕ

abbrev pub filing_between : {D : Type 0} → Ghosts D → D → D → Filing
filing_between g old new = record {
  before = g.reads old;
  after = g.reads new;
  Honest = g.honest new;
  faults_before = g.faults old;
  faults_after = g.faults new;
}

-- the file of the second disk, if there is one
pub data Second : Type 1 where
  Without : Second
  With : Filing → Second

-- there is a second disk
abbrev pub HasSecond : Second → Type 0
HasSecond Without = ⊥
HasSecond (With file) = Unit {0}

-- The mode has the script and the basis that it needs; `checkpoint` needs a second disk.
pub record HasItsNeeds (mode : Mode) (input : Input) (shelf : Shelving) (second : Second) : Type 0 where
  pub lanes : List Lane
  pub script : (name : List ℕ) → mode ≡ Run name → HasScript input lanes
  pub basis : (name : List ℕ) → NeedsBasis mode (asks_for_values lanes ≡ true) name
      → ShelfHas shelf (λ files. (basis : List Dated) × IsBasis files name basis)
  pub disks : mode ≡ Checkpoint → HasSecond second

-- what a mode sees of the second disk: `state` of all policies and `checkpoint` open it
abbrev pub seen_by : Mode → Second → Second
seen_by (State None) second = second
seen_by Checkpoint second = second
seen_by mode second = Without

-- The journal's disk comes back honest. If the mode sees the second disk, that comes back honest too, and a
-- checkpoint in its file is true of the journal.
abbrev pub AreTrusted : Filing → Second → Type 0
AreTrusted disk Without = disk.Honest
AreTrusted disk (With second) = disk.Honest × second.Honest × TellsTruth second.before disk.before

-- one of the disks failed, as its counts of faults show
abbrev pub HasDiskFault : (Tell : ℕ → ℕ → Type 0) → Filing → Second → Type 0
HasDiskFault Tell disk Without = Tell disk.faults_before disk.faults_after
HasDiskFault Tell disk (With second) =
    Tell disk.faults_before disk.faults_after ⊎ Tell second.faults_before second.faults_after

-- The journal's file is so; and it and the second one, if there is one, are trusted, and didn't fail.
pub record JournalIs (disk : Filing) (second : Second) (IsSo : List ℕ → Type 0) : Type 0 where
  pub trusted : AreTrusted disk second
  pub so : IsSo disk.before
  pub held : ¬ HasDiskFault Rose disk second

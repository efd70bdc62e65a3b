-- Names for the parts of what is due, and of why
use Rattle.std.specs.Prelude.{◌≡◌, ◌≤◌, ◌<◌, ◌⊎◌, ℕ, ℤ, true, List, codes, length}
use Rattle.life_app.specs.Names.{Rose, GivesMore, Command, Lane, Dated, IsBasis, AreWords, Mode, Run, Value, Project, State, Checkpoint, Generate, Load, Opens, OpensToNone, Input, IsWholeInput, Shelving, At, Measure, IsUnreadable, asks_for_values, most_script_bytes, position_of, IsFirstBadFile}
use Rattle.basis_shelf.specs.declared.fault.BadBasis.{BadBasis as ABadBasis}
use Rattle.life_app.specs.Needs.{Filing, HasDiskFault, HasScript, HasSecond, JournalIs, Second, ShelfHas, Without, seen_by}

-- what the arguments ask for
abbrev pub AreNoWords : List (List ℕ) → Type 0
AreNoWords words = (mode : Mode) → ¬ AreWords words mode

abbrev pub AskForRun : List (List ℕ) → List ℕ → Type 0
AskForRun words name = AreWords words (Run name)

abbrev pub AskForValue : List (List ℕ) → ℤ → At → List ℕ → Type 0
AskForValue words on at name = (workers : ℕ) × ((measure : Measure) × AreWords words (Value on at workers name measure))

abbrev pub AskForProject : List (List ℕ) → ℤ → ℕ → List ℕ → Type 0
AskForProject words on years name = (workers : ℕ) × AreWords words (Project on years workers name)

abbrev pub AskForCheckpoint : List (List ℕ) → Type 0
AskForCheckpoint words = AreWords words Checkpoint

abbrev pub AskForGenerate : List (List ℕ) → Type 0
AskForGenerate words = (seed : ℕ) × ((count : ℕ) × ((lanes : ℕ) × AreWords words (Generate seed count lanes)))

abbrev pub AskForLoad : List (List ℕ) → Type 0
AskForLoad words =
    (seed : ℕ) × ((count : ℕ) × ((lanes : ℕ) × ((workers : ℕ) × AreWords words (Load seed count lanes workers))))

-- what the script, the shelf and the journal are
abbrev pub HasNoScript : Input → Type 0
HasNoScript input =
    (GivesMore most_script_bytes input.given_before input.given_after
    ⊎ ((bytes : List ℕ) × IsWholeInput input bytes × IsUnreadable bytes))
    × (¬ Rose input.faults_before input.faults_after)

abbrev pub HasBasis : Shelving → List ℕ → Type 0
HasBasis shelf name = ShelfHas shelf (λ files. (basis : List Dated) × IsBasis files name basis)

abbrev pub HasNoBasis : Shelving → List ℕ → Type 0
HasNoBasis shelf name = ShelfHas shelf (λ files. (bad : ABadBasis) × IsFirstBadFile files name bad)

abbrev pub HasJournal : Filing → Second → List Command → Type 0
HasJournal disk second commands = JournalIs disk second (λ file. Opens file commands)

abbrev pub HasNoJournal : Filing → Second → Type 0
HasNoJournal disk second = JournalIs disk second OpensToNone

abbrev pub HasNewFault : Filing → Second → Type 0
HasNewFault disk second = HasDiskFault ◌<◌ disk second

-- what a mode needs, by its words
abbrev pub NeedsOf : Mode → Input → Shelving → Second → Type 0
NeedsOf (Run name) input shelf second =
    (lanes : List Lane) × HasScript input lanes × (asks_for_values lanes ≡ true → HasBasis shelf name)
NeedsOf (Value on at workers name measure) input shelf second = HasBasis shelf name
NeedsOf (Project on years workers name) input shelf second = HasBasis shelf name
NeedsOf (State id) input shelf second = Unit {0}
NeedsOf Checkpoint input shelf second = HasSecond second
NeedsOf (Generate seed count lanes) input shelf second = Unit {0}
NeedsOf (Load seed count lanes workers) input shelf second = HasBasis shelf (codes "basis.csv")

-- the commands of a journal that has some
pub commands_of : {disk : Filing} {second : Second} → JournalIs disk second (λ file. (commands : List Command) × Opens file commands)
    → (commands : List Command) × HasJournal disk second commands
commands_of is = (is.so.0, record { trusted = is.trusted; so = is.so.1; held = is.held })

abbrev pub HasItsJournal : Mode → Filing → Second → Type 0
HasItsJournal mode disk second = has mode
  where
    has : Mode → Type 0
    has (Value on at workers name measure) =
        JournalIs disk Without (λ file. (commands : List Command) × Opens file commands
        × (position_of at (length commands) ≤ length commands))
    has (Generate seed count lanes) = Unit {0}
    has mode = JournalIs disk (seen_by mode second) (λ file. (commands : List Command) × Opens file commands)

abbrev pub LacksItsJournal : Mode → Filing → Second → Type 0
LacksItsJournal mode disk second = lacks mode
  where
    lacks : Mode → Type 0
    lacks (Generate seed count lanes) = ⊥
    lacks mode = JournalIs disk (seen_by mode second) OpensToNone

-- Why the program ends as it does
use Rattle.std.specs.Prelude.{◌⊎◌, ◌<◌, ℕ, ℤ, List, length}
use Rattle.life_app.specs.Names.{Rose, Files, Command, Position, Measure, AreWords, Mode, Run, Value, Checkpoint, IsFirstBadFile, Opens, IsShown, StartCause, Input, Shelving, Stream, WroteOrFailed, Ending, Done, Usage, BadScript, BadBasis, BadJournal, ReadFault, WriteFault, DiskFault, NoMemory, Ahead, SaysWhy, IsRefused, ReadsForValues}
use Rattle.basis_shelf.specs.Lines.{bad_basis_text}
use Rattle.basis_shelf.specs.declared.fault.BadBasis.{BadBasis as ABadBasis}
use Rattle.life_app.specs.Needs.{AreTrusted, Filing, HasDiskFault, HasSecond, NeedsBasis, Second, seen_by}

-- Why the program ends with this status: the arguments are faulty, or too few commands are there; or what the script,
-- a basis file or the journal is, and the line that names it; or which device's count of faults rose, among those
-- that the arguments need. Success and a refusal of memory need no reason.
abbrev pub HasReason : List (List ℕ) → Input → Stream → Shelving → Filing → Second → Ending → Type 0
HasReason words input output shelf disk second Done = Unit {0}
HasReason words input output shelf disk second Usage =
    ((mode : Mode) → ¬ AreWords words mode) ⊎ (AreWords words Checkpoint × (¬ HasSecond second))
HasReason words input output shelf disk second BadScript = (name : List ℕ) × AreWords words (Run name) × IsRefused input output
HasReason words input output shelf disk second BadBasis =
    (mode : Mode) × AreWords words mode × ((name : List ℕ) × ((bad : ABadBasis) × NeedsBasis mode (ReadsForValues input) name
    × ((files : Files) → shelf.Agrees files → IsFirstBadFile files name bad) × WroteOrFailed output (bad_basis_text bad)))
HasReason words input output shelf disk second BadJournal =
    (mode : Mode) × AreWords words mode
    × ((cause : StartCause) × SaysWhy cause output × (AreTrusted disk (seen_by mode second) → IsShown disk.before cause))
HasReason words input output shelf disk second ReadFault =
    ((name : List ℕ) × AreWords words (Run name) × Rose input.faults_before input.faults_after)
    ⊎ ((mode : Mode) × AreWords words mode
    × ((name : List ℕ) × NeedsBasis mode (ReadsForValues input) name × Rose shelf.faults_before shelf.faults_after))
HasReason words input output shelf disk second WriteFault = Rose output.faults_before output.faults_after
HasReason words input output shelf disk second DiskFault =
    (mode : Mode) × AreWords words mode × HasDiskFault Rose disk (seen_by mode second)
HasReason words input output shelf disk second (NoMemory lack) = Unit {0}
HasReason words input output shelf disk second Ahead =
    (on : ℤ) × ((p workers : ℕ) × ((name : List ℕ) × ((measure : Measure) × AreWords words (Value on (Position p) workers name measure)
    × (disk.Honest → (commands : List Command) × Opens disk.before commands × (length commands < p)))))

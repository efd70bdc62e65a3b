-- Which ending is due, provided the devices on which it depends don't fail
use Rattle.std.specs.Prelude.{◌≡◌, ◌≤◌, ◌<◌, ◌⊎◌, ℕ, ℤ, true, List, length}
use Rattle.life_app.specs.Names.{Rose, GivesMore, Command, Position, Lane, Dated, IsBasis, AreWords, Mode, Run, Value, Generate, Opens, OpensToNone, Input, IsWholeInput, Shelving, Stream, Ending, Done, Usage, BadScript, BadBasis, BadJournal, ReadFault, DiskFault, Ahead, Measure, IsUnreadable, asks_for_values, most_script_bytes, position_of, IsFirstBadFile}
use Rattle.basis_shelf.specs.declared.fault.BadBasis.{BadBasis as ABadBasis}
use Rattle.life_app.specs.Needs.{Filing, HasDiskFault, HasItsNeeds, HasScript, JournalIs, NeedsBasis, Second, ShelfHas, Without, seen_by}

-- The ending that is due: by the arguments; by the script; by the basis; by the journal, and how many commands it
-- has. If nothing is lacking and the output doesn't fail, the work is done. If the count of the shelf or of the input
-- rises, or that of a disk while the output doesn't fail, that is reported.
abbrev pub IsDueEnding : List (List ℕ) → Input → Stream → Shelving → Filing → Second → Ending → Type 0
IsDueEnding words input output shelf disk second Usage = (mode : Mode) → ¬ AreWords words mode
IsDueEnding words input output shelf disk second BadScript =
    (name : List ℕ) × AreWords words (Run name)
    × (GivesMore most_script_bytes input.given_before input.given_after
    ⊎ ((bytes : List ℕ) × IsWholeInput input bytes × IsUnreadable bytes))
    × (¬ Rose input.faults_before input.faults_after)
IsDueEnding words input output shelf disk second BadBasis =
    (mode : Mode) × AreWords words mode
    × ((name : List ℕ) × NeedsBasis mode ((lanes : List Lane) × HasScript input lanes × (asks_for_values lanes ≡ true)) name
    × ShelfHas shelf (λ files. (bad : ABadBasis) × IsFirstBadFile files name bad))
IsDueEnding words input output shelf disk second BadJournal =
    (mode : Mode) × AreWords words mode × HasItsNeeds mode input shelf second × lacks mode
  where
    -- `generate` needs no journal
    lacks : Mode → Type 0
    lacks (Generate seed count lanes) = ⊥
    lacks mode = JournalIs disk (seen_by mode second) OpensToNone
IsDueEnding words input output shelf disk second Ahead =
    (on : ℤ) × ((p workers : ℕ) × ((name : List ℕ) × ((measure : Measure) × AreWords words (Value on (Position p) workers name measure)
    × ShelfHas shelf (λ files. (basis : List Dated) × IsBasis files name basis)
    × JournalIs disk Without (λ file. (commands : List Command) × Opens file commands × (length commands < p)))))
IsDueEnding words input output shelf disk second Done =
    (mode : Mode) × AreWords words mode × HasItsNeeds mode input shelf second × has mode
    × (¬ Rose output.faults_before output.faults_after)
  where
    -- it has the journal that it needs, with as many commands as are asked for
    has : Mode → Type 0
    has (Value on at workers name measure) =
        JournalIs disk Without (λ file. (commands : List Command) × Opens file commands
        × (position_of at (length commands) ≤ length commands))
    has (Generate seed count lanes) = Unit {0}
    has mode = JournalIs disk (seen_by mode second) (λ file. (commands : List Command) × Opens file commands)
IsDueEnding words input output shelf disk second ReadFault =
    (shelf.faults_before < shelf.faults_after) ⊎ (input.faults_before < input.faults_after)
IsDueEnding words input output shelf disk second DiskFault =
    HasDiskFault ◌<◌ disk second × (¬ Rose output.faults_before output.faults_after)
IsDueEnding _ _ _ _ _ _ _ = ⊥

-- Which endings are due in worked cases, for the run's script and for files by hand; so what is due can come about
use Rattle.std.specs.Prelude.{◌≡◌, ◌⊎◌, ℕ, true, List, [], ◌∷◌, Some, codes, pos, replicate}
use Rattle.life_app.specs.WorkedRun.Names.{Dated, IsPicked, IsBasis, lane_of, Measured, ReadFrom, Synced, Absent, Found, GivesMore, Now, Position, Lane, Terminal, Run, ToValue, hand_issue, status_of, Input, Shelving, Ending, Done, Usage, BadScript, BadJournal, IsReadable, IsUnreadable, most_script_bytes, input_that_gave, BadBasis, IsFirstBadFile, Opens, OpensToNone, Value, HasItsNeeds, HasScript, IsDueEnding, IsGivenBasis, Filing, JournalIs, ShelfHas, Without, filing_between}
use Rattle.basis_shelf.specs.declared.fault.BadBasis.{BadBasis as ABadBasis}
use Rattle.basis_shelf.specs.Worked.{certain_death, one_row}
use Rattle.life_app.specs.WorkedRun.Calls.{CalledDisk, called, cut_disk, called_disk, last_disk}
use Rattle.life_app.specs.WorkedRun.Promise.{given_script, output_of, premium_lanes, premium_script, premium_text, shelf_that_told}

-- the journal's file, as it was cut and as it is after the premium
abbrev pub cut_filing : Filing
cut_filing = filing_between called cut_disk last_disk

-- eighteen letters A, which are no journal, made safe, measured and read
abbrev pub letters : List ℕ
letters = replicate 18 65

abbrev pub letters_disk : CalledDisk
letters_disk = called_disk letters (ReadFrom 0 18 (Some letters) ∷ Measured (Some 18) ∷ Synced true ∷ [])

abbrev pub letters_filing : Filing
letters_filing = filing_between called (called_disk letters []) letters_disk

-- an untouched input
abbrev pub no_input : Input
no_input = input_that_gave [] ⊥ 0

-- a row of lane 9, which doesn't exist; and a line that asks for values
abbrev pub faulty_script : Input
faulty_script = input_that_gave (codes "9,lapse,1,2020-01-01") (Unit {0}) 0

abbrev pub value_script : Input
value_script = input_that_gave (codes "1,value,2020-01-01,now,64\n") (Unit {0}) 0

abbrev pub value_lanes : List Lane
value_lanes = lane_of 1 (Value (pos 18262) Now 64 ∷ [])

-- a shelf that had a basis file and its table, and one that had none
abbrev pub stocked_shelf : Shelving
stocked_shelf = shelf_that_told ((record { name = codes "q.xml"; told = Found certain_death }) ∷ (record { name = codes "b.csv"; told = Found one_row }) ∷ [])

abbrev pub basisless_shelf : Shelving
basisless_shelf = shelf_that_told ((record { name = codes "a.csv"; told = Absent }) ∷ [])

-- what a mode may need is there, or is lacking
abbrev pub NeedsByHand : Type 0
NeedsByHand = IsReadable premium_script
    × IsUnreadable (codes "9,lapse,1,2020-01-01")
    × HasScript given_script premium_lanes
    × HasScript value_script value_lanes
    × ((bytes : List ℕ) × GivesMore most_script_bytes [] bytes × IsDueEnding (codes "run" ∷ []) (input_that_gave bytes ⊥ 0) (output_of []) (shelf_that_told []) cut_filing Without BadScript)
    × ShelfHas stocked_shelf (λ files. (basis : List Dated) × IsBasis files (codes "b.csv") basis)
    × ShelfHas basisless_shelf (λ files. (bad : ABadBasis) × IsFirstBadFile files (codes "a.csv") bad)
    × JournalIs cut_filing Without (λ file. Opens file (hand_issue ∷ []))
    × JournalIs letters_filing Without OpensToNone

-- the line that asks for values is given the basis that the files make, whose one row is picked for a policy of 2020
abbrev pub BasisByHand : Type 0
BasisByHand = (entry : Dated) × IsGivenBasis IsBasis value_lanes (codes "b.csv") stocked_shelf (entry ∷ []) × IsPicked (entry ∷ []) (pos 18262) 0 entry

-- arguments that ask for values at the first position, by a basis that is there
abbrev pub value_words : List (List ℕ)
value_words = codes "value" ∷ codes "2021-01-01" ∷ codes "--at=1" ∷ codes "--basis=b.csv" ∷ []

-- the run of the premium has all that it needs, so it is to be done, and so is the valuation; other arguments, files
-- and scripts have other endings
abbrev pub DueByHand : Type 0
DueByHand = HasItsNeeds (Run (codes "basis.csv")) given_script (shelf_that_told []) Without
    × IsDueEnding (codes "run" ∷ []) given_script (output_of premium_text) (shelf_that_told []) cut_filing Without Done
    × IsDueEnding (codes "state" ∷ []) no_input (output_of []) (shelf_that_told []) letters_filing Without BadJournal
    × IsDueEnding [] no_input (output_of []) (shelf_that_told []) cut_filing Without Usage
    × IsDueEnding (codes "run" ∷ []) faulty_script (output_of []) (shelf_that_told []) cut_filing Without BadScript
    × IsDueEnding (codes "run" ∷ codes "--basis=a.csv" ∷ []) value_script (output_of []) basisless_shelf cut_filing Without BadBasis
    × IsDueEnding (codes "value" ∷ codes "2021-01-01" ∷ codes "--basis=a.csv" ∷ []) no_input (output_of []) basisless_shelf cut_filing Without BadBasis
    × HasItsNeeds (ToValue (pos 18628) (Position 1) 1 (codes "b.csv") Terminal) no_input stocked_shelf Without
    × IsDueEnding value_words no_input (output_of []) stocked_shelf cut_filing Without Done

-- and so the run of the premium, which ended with 0, ended as was due
abbrev pub DueOfTheRun : Type 0
DueOfTheRun = (ending : Ending)
    → IsDueEnding (codes "run" ∷ []) given_script (output_of premium_text) (shelf_that_told []) cut_filing Without ending
    → (status_of Done ≡ status_of ending) ⊎ (status_of Done ≡ 9)

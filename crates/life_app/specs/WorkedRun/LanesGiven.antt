-- The run of the two lanes from its arguments on: the script that the input gave, and the basis that three files make
use Rattle.std.specs.Prelude.{◌≡◌, ◌⊎◌, ℕ, List, [], ◌∷◌, Option, codes}
use Rattle.basis_shelf.specs.Worked.{certain_death}
use Rattle.life_app.specs.WorkedRun.Names.{Answer, AreWords, DiskFault, EndsRead, EndsRun, Ending, Found, Input, IsBasis, IsDueEnding, IsGivenBasis, IsUnrun, IsWholeInput, Obeys, Opens, Reads, Run, Shelving, Without, filing_between, input_that_gave, status_of}
use Rattle.life_app.specs.WorkedRun.Calls.{CalledDisk, called}
use Rattle.life_app.specs.WorkedRun.Lanes.{fault_disk, lanes_disk, lanes_script, lanes_text, output_by, typed_lanes}
use Rattle.life_app.specs.WorkedRun.Promise.{shelf_that_told, two_auditors}
use Rattle.life_app.specs.WorkedRun.Told.{two_bases}

-- a basis file of two rows; the table of the first has the ages 0 to 4, that of the second the age 60 alone
abbrev pub lanes_rows : List ℕ
lanes_rows = codes "2000-01-01,five.xml,0\n2020-01-02,q.xml,400\n"

abbrev pub five_ages_text : List ℕ
five_ages_text = codes "<XTbML><Table><Values><Axis><Y t='0'>0.1</Y><Y t='1'>0.2</Y><Y t='2'>0.25</Y><Y t='3'>.5</Y><Y t='4'>1</Y></Axis></Values></Table></XTbML>"

-- the shelf answered for the basis file first, and then for the tables
abbrev pub found_as : List ℕ → List ℕ → Answer
found_as name bytes = record { name = name; told = Found bytes }

abbrev pub lanes_found : List Answer
lanes_found = found_as (codes "q.xml") certain_death ∷ found_as (codes "five.xml") five_ages_text ∷ found_as (codes "basis.csv") lanes_rows ∷ []

abbrev pub lanes_shelf : Shelving
lanes_shelf = shelf_that_told lanes_found

-- the whole input, up to its end
abbrev pub lanes_input : Input
lanes_input = input_that_gave lanes_script (Unit {0}) 0

-- the argument `run` asks for a run of the whole input, which is read as the two lanes; one line asks for values, and
-- the files make the two entries
abbrev pub GivenLanes : Type 0
GivenLanes = AreWords (codes "run" ∷ []) (Run (codes "basis.csv"))
    × IsWholeInput lanes_input lanes_script × Reads lanes_script typed_lanes
    × IsGivenBasis IsBasis typed_lanes (codes "basis.csv") lanes_shelf two_bases

-- the program obeyed them, beside any second disk or none, and ended with 8
abbrev pub ObeyedLanes : Type 0
ObeyedLanes = EndsRead called lanes_disk fault_disk (codes "basis.csv") two_auditors lanes_input (output_by fault_disk lanes_text) lanes_shelf ⊥ DiskFault
    × EndsRun called lanes_disk fault_disk (codes "basis.csv") two_auditors lanes_input (output_by fault_disk lanes_text) lanes_shelf ⊥ DiskFault
    × ((second : Option CalledDisk) → Obeys called called lanes_disk fault_disk second second (codes "run" ∷ []) two_auditors lanes_input (output_by fault_disk lanes_text) lanes_shelf ⊥ ⊥ 8)

-- so the run isn't one that failed and answered no line
abbrev pub AnsweredLanes : Type 0
AnsweredLanes = IsUnrun called Opens lanes_disk fault_disk (codes "basis.csv") lanes_input (output_by fault_disk lanes_text) lanes_shelf 8 → ⊥

-- a disk's fault is due, and whatever is due comes about
abbrev pub DueLanes : Type 0
DueLanes = IsDueEnding (codes "run" ∷ []) lanes_input (output_by fault_disk lanes_text) lanes_shelf (filing_between called lanes_disk fault_disk) Without DiskFault
    × ((ending : Ending) → IsDueEnding (codes "run" ∷ []) lanes_input (output_by fault_disk lanes_text) lanes_shelf (filing_between called lanes_disk fault_disk) Without ending
    → (status_of DiskFault ≡ status_of ending) ⊎ (status_of DiskFault ≡ 9))

-- What the laws and the contract conclude for the worked run and for small values by hand
use Rattle.std.specs.Prelude.{ℕ, List, None, [], ◌∷◌, ◌++◌, codes, pos}
use Rattle.watcher_set.specs.Evidence.{a_lack}
use Rattle.transcript_text.specs.Transcript.{IsToldText}
use Rattle.trial_load.specs.inside.Loaded.{EndsLoad}
use Rattle.life_app.specs.WorkedRun.Names.{Dated, IsPicked, Absent, Faulted, Endowment, Policy, Row, Bounds, Opens, hand_issue, hand_premium, premium_turn, Shelving, Done, BadBasis, NoMemory, EndsValue, State, Now, Terminal, ReadsForValues, issued, InForce, IsInsured, EndsProject, EndsGenerate, EndsMode, IsEnclosingRow, IsUnrun, IsWorthBy, WasFaulted, Without, AddsCommands, table_reserves, run_wording, Pinned, Value, NeedsBasis, Ahead, AreWords, Load, Project, Run}
use Rattle.valuing_modes.specs.Worked.Valued.{five_endowments, from_2000, from_2020}
use Rattle.life_app.specs.Reasons.{HasReason}
use Rattle.life_app.specs.WorkedRun.Both.{issue_books, looked_filing, saved_filing}
use Rattle.life_app.specs.WorkedRun.Calls.{called, cut_disk}
use Rattle.life_app.specs.WorkedRun.Due.{cut_filing, no_input, value_script}
use Rattle.life_app.specs.WorkedRun.Promise.{given_script, output_of, premium_text, shelf_that_told, two_auditors}
use Rattle.life_app.specs.WorkedRun.Runs.{cut_run, looked_disk}

-- the cut run added the issue; a posting that faulted was not accepted before; and a run may answer no line
abbrev pub EndedByHand : Type 0
EndedByHand = AddsCommands cut_run (hand_issue ∷ []) []
    × WasFaulted (premium_turn (Faulted 4) ∷ []) [] hand_premium
    × IsUnrun called Opens cut_disk cut_disk (codes "basis.csv") given_script (output_of (codes "nomemory" ++ 10 ∷ []))
    (shelf_that_told []) 9

-- the basis of the default name, which isn't there
abbrev pub unstocked_shelf : Shelving
unstocked_shelf = shelf_that_told ((record { name = codes "basis.csv"; told = Absent }) ∷ [])

abbrev pub absent_basis : List ℕ
absent_basis = codes "badbasis,basis.csv,0,absent" ++ 10 ∷ []

-- endings with their reasons
abbrev pub ReasonsByHand : Type 0
ReasonsByHand = HasReason (codes "run" ∷ []) given_script (output_of premium_text) (shelf_that_told []) cut_filing Without Done
    × NeedsBasis (Run (codes "basis.csv")) (ReadsForValues value_script) (codes "basis.csv")
    × HasReason (codes "run" ∷ []) value_script (output_of absent_basis) unstocked_shelf cut_filing Without BadBasis
    × ReadsForValues value_script
    × HasReason (codes "value" ∷ codes "2021-01-01" ∷ codes "--at=5" ∷ []) no_input (output_of []) (shelf_that_told []) cut_filing Without Ahead
    × AreWords (codes "project" ∷ codes "2021-01-01" ∷ codes "1" ∷ []) (Project (pos 18628) 1 1 (codes "basis.csv"))
    × AreWords (codes "load" ∷ codes "7" ∷ codes "5" ∷ codes "2" ∷ codes "1" ∷ []) (Load 7 5 2 1)
    × ((words : List (List ℕ)) → HasReason words no_input (output_of (codes "checkpoint,1" ++ 10 ∷ [])) (shelf_that_told []) looked_filing saved_filing Done)

-- the modes that need a basis end so if it isn't there; `generate` ends so if there is no memory; and `state` ends
-- with its books
abbrev pub ModesByHand : Type 0
ModesByHand = EndsValue called cut_disk cut_disk (pos 18628) Now Terminal (codes "basis.csv") unstocked_shelf (output_of absent_basis) BadBasis
    × EndsProject called cut_disk cut_disk (pos 18628) 1 (codes "basis.csv") unstocked_shelf (output_of absent_basis) BadBasis
    × EndsLoad called cut_disk cut_disk 7 5 2 1 unstocked_shelf (output_of absent_basis) BadBasis
    × EndsGenerate 7 5 2 (output_of (codes "nomemory" ++ 10 ∷ [])) (NoMemory a_lack)
    × EndsMode called called cut_disk looked_disk None None (State None) two_auditors no_input (output_of issue_books) (shelf_that_told []) (Unit {0}) (Unit {0}) Done

abbrev pub two_bases : List Dated
two_bases = from_2000 ∷ from_2020 ∷ []

-- the first of five endowments, and its row on 2021-01-01
abbrev pub first_endowment : Policy
first_endowment = issued 7001 (pos 18262) Endowment 0 3 100000 40000

abbrev pub first_value : Row
first_value = record { id = 7001; status = InForce; t = 1; worth = Bounds 12722 12723 }

-- all of them
abbrev pub five_text : List ℕ
five_text = codes "0,value,2021-01-01,8,5" ++ (10 ∷ []) ++ codes "row,7001,inforce,1,127.22,127.23" ++ (10 ∷ [])
    ++ codes "row,7002,inforce,0,belowtable" ++ (10 ∷ []) ++ codes "row,7003,inforce,0,nobasis" ++ (10 ∷ [])
    ++ codes "row,7004,inforce,0,0.00,0.00" ++ (10 ∷ []) ++ codes "row,7005,paidup,1,300.00,300.00" ++ (10 ∷ [])
    ++ codes "total,427.22,427.23,2" ++ 10 ∷ []

-- the rows enclose the exact reserves; the first is insured, and its worth is by the rates from 2000 on
abbrev pub EnclosedByHand : Type 0
EnclosedByHand = IsToldText run_wording (IsEnclosingRow table_reserves two_bases) 0 (Value (pos 18628) Now 1) (Pinned 8 5) five_endowments ⊥ five_text
    × IsEnclosingRow table_reserves two_bases (pos 18628) first_endowment first_value
    × IsInsured first_endowment (pos 18628)
    × IsPicked two_bases (pos 18262) 0 from_2000
    × IsWorthBy table_reserves first_endowment from_2000 (pos 18628) 1 (Bounds 12722 12723)

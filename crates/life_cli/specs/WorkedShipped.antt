-- The worked run's second half, and the run of two lanes, as runs of the shipped program, from the start of its devices
use Rattle.std.specs.Prelude.{[], ◌∷◌, codes}
use Rattle.life_app.specs.WorkedRun.Both.{second_disk}
use Rattle.life_app.specs.WorkedRun.Calls.{called, cut_disk, last_disk}
use Rattle.life_app.specs.WorkedRun.Lanes.{fault_disk, lanes_disk, lanes_text, output_by}
use Rattle.life_app.specs.WorkedRun.LanesGiven.{lanes_input, lanes_shelf}
use Rattle.life_app.specs.WorkedRun.Promise.{given_script, output_of, premium_text, shelf_that_told}
use Rattle.life_args.specs.Words.{IsRun}
use Rattle.life_cli.specs.ShippedRun.{IsShipped}

-- Standard input gave the script, standard output took the transcript, and no file of the folder was asked for. The
-- journal's file was the one that the crash had cut, and the second file held a checkpoint of it. No option names the
-- basis.
abbrev pub ShippedByHand : Type 0
ShippedByHand = IsRun [] (codes "basis.csv") × IsShipped called called cut_disk last_disk second_disk second_disk (codes "run" ∷ []) given_script
    (output_of premium_text) (shelf_that_told []) ⊥ (Unit {0}) 0

-- The folder was asked for the basis file and its two tables, which it had. The journal's file held both issues, and
-- its disk failed in a sync; so the program ended with 8, for that reason.
abbrev pub ShippedLanes : Type 0
ShippedLanes = IsShipped called called lanes_disk fault_disk second_disk second_disk (codes "run" ∷ []) lanes_input
    (output_by fault_disk lanes_text) lanes_shelf ⊥ ⊥ 8

-- The worked runs of the shipped program hold what their cases say.
use Rattle.life_cli.proofs.Names.{◌≤◌, [], ◌∷◌, refl, codes, Some, Done, lit≤, DiskFault}
use Rattle.life_app.specs.WorkedRun.Both.{second_disk}
use Rattle.life_app.specs.WorkedRun.Calls.{called, cut_disk, last_disk}
use Rattle.life_app.specs.WorkedRun.Lanes.{fault_disk, lanes_disk, lanes_text, output_by}
use Rattle.life_app.specs.WorkedRun.LanesGiven.{lanes_input, lanes_shelf}
use Rattle.life_app.specs.WorkedRun.Promise.{given_script, output_of, premium_text, shelf_that_told}
use Rattle.life_app.proofs.WorkedRun.Due.{due_beside}
use Rattle.life_app.proofs.WorkedRun.LanesDisk.{found_opens}
use Rattle.life_app.proofs.WorkedRun.LanesGiven.{due_beside_lanes, obeyed_beside}
use Rattle.life_app.proofs.WorkedRun.Promise.{asks_run, obeyed}
use Rattle.life_app.proofs.WorkedRun.First.{honest_last}
use Rattle.life_app.proofs.WorkedRun.Row.{facts, second_left}
use Rattle.life_args.specs.declared.mode.Mode.TheVariants.{Run}
use Rattle.life_cli.proofs.Promised.{shipped}
use Rattle.life_cli.specs.WorkedShipped.{ShippedByHand, ShippedLanes}

pub shipped_by_hand : ShippedByHand
shipped_by_hand = (
  asks_run.1,
  shipped called called cut_disk last_disk second_disk second_disk (codes "run" ∷ []) given_script
      (output_of premium_text) (shelf_that_told []) ⊥ (Unit {0}) 0 facts.only_now (obeyed (Some second_disk))
      (Done, refl, tt) (due_beside (Some second_disk)) (λ honest none. absurd (none _ (second_left.opened honest_last))),
)

pub shipped_lanes : ShippedLanes
shipped_lanes =
    shipped called called lanes_disk fault_disk second_disk second_disk (codes "run" ∷ []) lanes_input
    (output_by fault_disk lanes_text) lanes_shelf ⊥ ⊥ 8 facts.only_now (obeyed_beside (Some second_disk))
    (DiskFault, refl, (Run (codes "basis.csv"), asks_run, (let rose : 1 ≤ 1 = lit≤ tt in rose)))
    (due_beside_lanes (Some second_disk)) (λ honest none. absurd (none _ found_opens))

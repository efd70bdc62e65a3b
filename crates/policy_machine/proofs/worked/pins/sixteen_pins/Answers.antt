use Rattle.policy_machine.proofs.Names.{refl, arith, Pin, Pinned, turn}
use Rattle.policy_machine.proofs.Turns.{◌then◌}
use Rattle.policy_machine.proofs.worked.pins.sixteen_pins.Goals as goal

pub returns-clause-sixteen : goal.returns-clause-sixteen
returns-clause-sixteen c =
    (omega arith, refl, refl) then (omega arith, omega arith, omega arith, refl, refl) then
    (omega arith, refl, refl) then (omega arith, omega arith, omega arith, refl, refl) then
    (omega arith, refl, refl) then (omega arith, omega arith, omega arith, refl, refl) then
    (omega arith, refl, refl) then (omega arith, omega arith, omega arith, refl, refl) then
    (omega arith, refl, refl) then (omega arith, omega arith, omega arith, refl, refl) then
    (omega arith, refl, refl) then (omega arith, omega arith, omega arith, refl, refl) then
    (omega arith, refl, refl) then (omega arith, omega arith, omega arith, refl, refl) then
    (omega arith, refl, refl) then (omega arith, omega arith, omega arith, refl, refl) then
    omega arith then (omega arith, omega arith, omega arith) then (omega arith, refl) then
    ((0, 0), refl, (turn 1 Pin (Pinned 0 0), refl, refl)) then (omega arith, refl, refl) then omega arith then tt

use Rattle.policy_machine.proofs.Names.{refl, arith, anniversary_of, day_number, date_of, month_of, days_before_year, days_of_months, PinAt, Pinned, turn}
use Rattle.policy_machine.proofs.Turns.{◌then◌}
use Rattle.policy_machine.proofs.worked.pins.floors.Goals as goal

pub returns : goal.returns
unfolding anniversary_of day_number date_of month_of days_before_year days_of_months
returns c =
    let first = turn 2 (PinAt 0) (Pinned 0 0) in
    let second = turn 2 (PinAt 2) (Pinned 2 1) in
    let third = turn 2 (PinAt 3) (Pinned 3 2) in
    (refl, refl) then (omega arith, omega arith, omega arith, refl, refl) then
    ((0, 0), refl, (first, refl, refl)) then (refl, refl) then refl then (omega arith, omega arith, refl) then
    (omega arith, omega arith, omega arith, refl, refl) then (omega arith, refl) then (refl, refl) then
    (omega arith, omega arith, omega arith, refl, refl) then refl then
    ((2, 1), refl, (second, refl, refl), omega arith, refl) then ((2, 1), refl, (second, refl, refl)) then refl then
    (omega arith, omega arith, refl) then ((3, 2), refl, (third, refl, refl)) then refl then tt

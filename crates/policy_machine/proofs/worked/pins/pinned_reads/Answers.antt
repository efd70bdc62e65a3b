use Rattle.policy_machine.proofs.Names.{refl, arith, anniversary_of, day_number, date_of, month_of, days_before_year, days_of_months, Pin, Pinned, turn}
use Rattle.policy_machine.proofs.Turns.{◌then◌}
use Rattle.policy_machine.proofs.worked.pins.pinned_reads.Goals as goal

pub returns : goal.returns
unfolding anniversary_of day_number date_of month_of days_before_year days_of_months
returns c =
    let first = turn 2 Pin (Pinned 1 1) in
    let second = turn 2 Pin (Pinned 3 2) in
    (refl, refl) then (omega arith, refl, refl) then (refl, refl) then (refl, refl) then
    (omega arith, refl, refl) then ((1, 1), refl, (first, refl, refl), omega arith, refl) then
    ((1, 1), refl, (first, refl, refl), omega arith, refl) then
    ((3, 2), refl, (second, refl, refl), omega arith, refl) then
    ((3, 2), refl, (second, refl, refl), omega arith, refl) then ((1, 1), refl, (first, refl, refl)) then
    ((3, 2), refl, (second, refl, refl), omega arith, refl) then ((3, 2), refl, (second, refl, refl)) then tt

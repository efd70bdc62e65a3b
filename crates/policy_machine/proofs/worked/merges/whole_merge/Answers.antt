use Rattle.policy_machine.proofs.Names.{refl, arith, pos, [], ◌∷◌, IsDistinct, anniversary_of, day_number, date_of, month_of, days_before_year, days_of_months, Post, Pin, Read, Unpin, Trim, Accepted, Pinned, Policies, Unpinned, Floor, policy_issue, policy_with, premium_on, turn}
use Rattle.policy_types.specs.declared.policy.Status.TheVariants.{InForce}
use Rattle.policy_machine.proofs.Turns.{◌then◌}
use Rattle.policy_machine.proofs.worked.merges.whole_merge.Goals as goal

pub returns-clause-legal : goal.returns-clause-legal
unfolding anniversary_of day_number date_of month_of days_before_year days_of_months
returns-clause-legal c =
    let pin = turn 5 Pin (Pinned 1 1) in
    (refl, refl) then (omega arith, refl, refl) then (refl, refl) then refl then
    ((1, 1), refl, (pin, refl, refl), omega arith, refl) then ((1, 1), refl, (pin, refl, refl)) then tt

pub returns-clause-merge : goal.returns-clause-merge
unfolding IsDistinct
returns-clause-merge c =
    let issue = turn 5 (Post policy_issue) (Accepted 1) in
    let pin = turn 5 Pin (Pinned 1 1) in
    let premium = turn 6 (Post (premium_on (pos 18262))) (Accepted 2) in
    let trim = turn 6 Trim (Floor 1) in
    let read = turn 5 (Read 1 0) (Policies (policy_with (pos 18262) 0 InForce 0 ∷ [])) in
    let unpin = turn 5 (Unpin 1) Unpinned in (
      record {
        distinct = ((refl, tt), (tt, tt));
        theirs = ((0, omega arith, refl), ((0, omega arith, refl), ((1, omega arith, refl), ((1, omega arith, refl), ((0, omega arith, refl), ((0, omega arith, refl), tt))))));
        answers = (
          ((0, issue) ∷ [], ((1, pin) ∷ (4, read) ∷ (5, unpin) ∷ [], refl, refl, ((1, pin) ∷ (4, read) ∷ (5, unpin) ∷ [], ([], refl, (refl, (1, refl, λ not_dry. refl)), refl)))),
          (((2, premium) ∷ [], ((3, trim) ∷ [], refl, refl, ((3, trim) ∷ [], ([], refl, refl, refl)))), tt),
        );
      },
      record {
        distinct = ((refl, tt), (tt, tt));
        theirs = ((0, omega arith, refl), ((0, omega arith, refl), ((1, omega arith, refl), ((1, omega arith, refl), ((0, omega arith, refl), ((0, omega arith, refl), tt))))));
        answers = (
          ((0, issue) ∷ [], ((1, pin) ∷ (4, read) ∷ (5, unpin) ∷ [], refl, refl, ((1, pin) ∷ (4, read) ∷ (5, unpin) ∷ [], ([], refl, (refl, (1, refl, λ not_dry. refl)), refl)))),
          (((2, premium) ∷ [], ((3, trim) ∷ [], refl, refl, ((3, trim) ∷ [], ([], refl, refl, refl)))), tt),
        );
      },
    )

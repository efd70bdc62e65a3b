-- Both pairs are within.
use Rattle.std.proofs.Common.{rules, IsTrue, FitsSigned, w64}
use Rattle.checkpoint_store.proofs.Balances.{both_within}
use Rattle.checkpoint_store.proofs.front.are_within.Goals as goal

pub returns-then-are_both_within : goal.returns-then-are_both_within
returns-then-are_both_within c =
    let ledger = c.args.ledger in
    let cash : FitsSigned w64 ledger.cash = search rules in
    let premiums : FitsSigned w64 ledger.premiums = search rules in
    let incurred : FitsSigned w64 ledger.incurred = search rules in
    let payable : FitsSigned w64 ledger.payable = search rules in
    let first = both_within c.args.most ledger.cash ledger.premiums c.are_both_within.result cash premiums c.are_both_within.ensures in
    let second = both_within c.args.most ledger.incurred ledger.payable c.are_both_within-then-are_both_within.result incurred payable c.are_both_within-then-are_both_within.ensures in
    let yes : IsTrue c.are_both_within.result = search rules in
    let one = first.0 yes in
    (λ is. let other = second.0 is in (one.0, one.1, other.0, other.1), λ all. second.1 (all.2, all.3))

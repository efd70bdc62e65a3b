use Rattle.std.proofs.Common.{arith, ◌∙◌}
use Rattle.crvm_reserve.proofs.MeanValues.{net_first, net_due, net_after}
use Rattle.crvm_reserve.proofs.mean.net_premium_of.Goals as goal

pub returns-then-t-eq0-clause-lo : goal.returns-then-t-eq0-clause-lo
returns-then-t-eq0-clause-lo c = λ cover cap premium payments.
    c.saturating_sub.ensures ∙ (net_first cover cap c.args.t c.args.premium.now premium c.if-t-eq0.true).0

pub returns-then-t-eq0-clause-hi : goal.returns-then-t-eq0-clause-hi
returns-then-t-eq0-clause-hi c = λ cover cap premium payments.
    c.saturating_sub-then-t-eq0.ensures ∙ (net_first cover cap c.args.t c.args.premium.now premium c.if-t-eq0.true).1

pub returns-then-t-h-clause-lo : goal.returns-then-t-h-clause-lo
returns-then-t-h-clause-lo c = λ cover cap premium payments.
    (net_due cover cap c.args.t c.args.premium.now premium (omega (arith, c.if-t-eq0.false)) (omega (arith, payments, c.if-t-h.true))).0

pub returns-then-t-h-clause-hi : goal.returns-then-t-h-clause-hi
returns-then-t-h-clause-hi c = λ cover cap premium payments.
    (net_due cover cap c.args.t c.args.premium.now premium (omega (arith, c.if-t-eq0.false)) (omega (arith, payments, c.if-t-h.true))).1

pub returns-else-t-h-clause-lo : goal.returns-else-t-h-clause-lo
returns-else-t-h-clause-lo c = λ cover cap premium payments.
    (net_after cover cap c.args.t (omega (arith, c.if-t-eq0.false)) (omega (arith, payments, c.if-t-h.false))).0

pub returns-else-t-h-clause-hi : goal.returns-else-t-h-clause-hi
returns-else-t-h-clause-hi c = λ cover cap premium payments.
    (net_after cover cap c.args.t (omega (arith, c.if-t-eq0.false)) (omega (arith, payments, c.if-t-h.false))).1

use Rattle.cash_projection.proofs.Names.{take, ArePaths, IsTallyOf}
use Rattle.cash_projection.proofs.projecting.tally_policies.Given as goal

-- the policies before this one are added
abbrev pub invariant-loop-policy : goal.invariant-loop-policy
invariant-loop-policy l = record {
  tally : IsTallyOf l.basis l.on l.years (take l.policy-index l.policies) l.tally;
  right : ArePaths l.basis l.paths;
}

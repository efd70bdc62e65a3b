use Rattle.policy_value.proofs.Names.{refl, ◌∙◌, lookup, IsRightPremium}
use Rattle.policy_value.specs.contracts.key.CacheKeyPartialEq.TheImpl.{eq-value}
use Rattle.policy_value.proofs.Asking.{asked_hit, missed, some_value}
use Rattle.policy_value.proofs.Keeping.{All-promoted, found_right, same_key}
use Rattle.policy_value.proofs.cache.ColumnCache.find.Goals as goal

pub returns-clause-right : goal.returns-clause-right
returns-clause-right c = λ basis all. rw c.get.follows.holds-at-none (All-promoted (IsRightPremium basis) _ _ all)

pub returns-clause-found : goal.returns-clause-found
returns-clause-found c = λ basis all.
    found_right (IsRightPremium basis) _ c.args.key c.args.self.now.premiums.entries c.copied.result (c.copied.ensures ∙ c.get.ensures.value) (same_key c.args.key) all

pub returns-clause-hit : goal.returns-clause-hit
returns-clause-hit c = λ some.
    let found = some_value (lookup (eq-value.it c.args.key) c.args.self.now.premiums.entries) (rw (c.copied.ensures ∙ c.get.ensures.value) at some) in
    asked_hit c.args.key c.args.self.now (record c.args.self.now { premiums = c.get.follows.lender-at-none }) found.0 found.1 c.get.follows.holds-at-none refl

pub returns-clause-miss : goal.returns-clause-miss
returns-clause-miss c =
    missed c.args.key c.args.self.now.premiums c.get.follows.lender-at-none c.copied.result (c.copied.ensures ∙ c.get.ensures.value) c.get.follows.holds-at-none

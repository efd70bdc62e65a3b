use Rattle.policy_value.proofs.Names.{refl, IsRightPremium}
use Rattle.policy_value.specs.contracts.key.CacheKeyPartialEq.TheImpl.{eq-value}
use Rattle.policy_value.proofs.Asking.{asked_kept, asked_unkept}
use Rattle.policy_value.proofs.Keeping.{All-after_put, same_key}
use Rattle.policy_value.proofs.cache.ColumnCache.keep.Goals as goal

pub returns-in-Ok-clause-right : goal.returns-in-Ok-clause-right
returns-in-Ok-clause-right c = λ basis right all.
    All-after_put (IsRightPremium basis) eq-value.it c.args.self.now.premiums c.put.new.self c.args.key c.args.premium c.put.result
    c.put.ensures.entries c.put.ensures.err (same_key c.args.key) right all

pub returns-in-Ok-clause-keys : goal.returns-in-Ok-clause-keys
returns-in-Ok-clause-keys c =
    asked_kept c.args.key c.args.self.now _ c.args.premium c.requires.missing c.in-Ok.ensures.entries refl

pub returns-in-Err-clause-keys : goal.returns-in-Err-clause-keys
returns-in-Err-clause-keys c =
    asked_unkept c.args.key c.args.self.now _ c.requires.missing c.in-Err.ensures.err c.saturating_add-self.ensures

use Rattle.policy_value.proofs.Names.{refl, sym, ap, ◌∙◌, lookup, LruCache, Premium, IsRightPremium, CacheKey}
use Rattle.policy_value.specs.contracts.key.CacheKeyPartialEq.TheImpl.{eq-value}
use Rattle.policy_value.proofs.Asking.{asked_hit, missing, not_promoted, some_value, none_value}
use Rattle.policy_value.proofs.Keeping.{All-promoted}
use Rattle.policy_value.proofs.cache.ColumnCache.find_unit.Goals as goal

pub returns-then-promote-clause-premiums : goal.returns-then-promote-clause-premiums
returns-then-promote-clause-premiums c = λ basis all. rw c.promote.ensures.entries (All-promoted (IsRightPremium basis) _ _ all)

pub returns-else-promote-clause-premiums : goal.returns-else-promote-clause-premiums
returns-else-promote-clause-premiums c = λ basis all. rw c.promote.ensures.entries (All-promoted (IsRightPremium basis) _ _ all)

pub returns-then-promote-clause-hit : goal.returns-then-promote-clause-hit
returns-then-promote-clause-hit c = λ some.
    let es = c.args.self.now.premiums.entries in
    let found = some_value (lookup (eq-value.it c.args.key) es) (sym c.promote.ensures.value ∙ c.if-promote.true) in
    asked_hit c.args.key c.args.self.now (record c.args.self.now { premiums = c.promote.new.self }) found.0 found.1 c.promote.ensures.entries refl

pub returns-else-promote-clause-miss : goal.returns-else-promote-clause-miss
returns-else-promote-clause-miss c =
    let none = none_value (lookup (eq-value.it c.args.key) c.args.self.now.premiums.entries) (sym c.promote.ensures.value ∙ c.if-promote.false) in
    let stays = not_promoted c.args.key c.args.self.now.premiums c.promote.new.self none c.promote.ensures.entries in
    ap (λ (premiums : LruCache CacheKey Premium). record c.args.self.now { premiums = premiums }) stays

pub returns-else-promote-clause-found : goal.returns-else-promote-clause-found
returns-else-promote-clause-found c = λ unit holds at.
    let none = none_value (lookup (eq-value.it c.args.key) c.args.self.now.premiums.entries) (sym c.promote.ensures.value ∙ c.if-promote.false) in
    absurd (missing c.args.key c.args.self.now.premiums.entries none at)

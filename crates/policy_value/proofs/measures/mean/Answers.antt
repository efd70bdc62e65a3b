use Rattle.policy_value.proofs.Names.{rules, ◌≡◌, ◌<◌, refl, ◌∙◌, sym, subst, arith, PaidUp, HasAsked, CacheKey, cap_by, cover_by}
use Rattle.policy_value.specs.Used.{key_of}
use Rattle.policy_value.proofs.Asking.{asked_then_kept}
use Rattle.policy_value.proofs.Statuses.{exact-end, mean-other, rounded-end}
use Rattle.policy_value.proofs.measures.mean.Goals as goal

pub returns-then-t-covered-clause-rounded : goal.returns-then-t-covered-clause-rounded
returns-then-t-covered-clause-rounded c =
    let cover = cover_by c.args.covered.now in
    let cap = cap_by c.args.covered.now in
    c.bounds.ensures.rounded ∙ sym (rounded-end c.args.policy.now.status cover cap c.args.policy.now.amount c.args.t (omega (arith, c.if-t-covered.true)))

pub returns-then-t-covered-clause-exact : goal.returns-then-t-covered-clause-exact
returns-then-t-covered-clause-exact c =
    let cover = cover_by c.args.covered.now in
    let cap = cap_by c.args.covered.now in
    rw (exact-end c.args.policy.now.status cover cap c.args.t (omega (arith, c.if-t-covered.true))) c.bounds.ensures.exact

pub returns-then-ne-clause-exact : goal.returns-then-ne-clause-exact
returns-then-ne-clause-exact c =
    let cover = cover_by c.args.covered.now in
    let cap = cap_by c.args.covered.now in
    let made = c.priced.ensures.made in
    let other : c.args.policy.now.status ≡ PaidUp → ⊥ = search rules in
    let before : c.args.t < c.args.covered.now.shape.n = search rules in
    rw (mean-other c.args.policy.now.status cover cap c.args.t other)
    (c.mean_by.ensures.exact cover cap c.args.t (record {
      reserved = made.reserved;
      before = before;
      year = refl;
      payments = refl;
      start = made.values_are;
      end = c.valued-end.ensures.made.values_are;
      premium = made.premium_is;
    }))

pub returns-then-ne-clause-keys : goal.returns-then-ne-clause-keys
returns-then-ne-clause-keys c =
    let other : c.args.policy.now.status ≡ PaidUp → ⊥ = search rules in
    record {
      paid_up = λ is. absurd (other is);
      other = λ not. asked_then_kept (key_of c.args.policy.now c.args.covered.now.own.basis_row) c.args.cache.now c.priced.new.self c.valued-end.new.self
          (subst (λ (key : CacheKey). HasAsked key c.args.cache.now c.priced.new.self) c.key_of-key.ensures c.priced.ensures.keys) c.valued-end.ensures.keys;
    }

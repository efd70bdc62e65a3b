use Rattle.policy_value.proofs.Names.{rules, ◌≡◌, ◌≤◌, ◌+◌, ◌<◌, ℕ, sym, ap, ◌∙◌, subst, arith, InForce, Encloses, Premium, Terminal, exact_reserve, cap_by, cover_by}
use Rattle.policy_types.specs.declared.policy.Status.{Status}
use Rattle.present_value.specs.Fractions.{Between}
use Rattle.present_value.specs.Premium.{beta}
use Rattle.present_value.specs.Rounding.{UNIT}
use Rattle.present_value.proofs.Steps.{ordered}
use Rattle.crvm_reserve.proofs.EachBound.{beta_lo, beta_hi}
use Rattle.crvm_reserve.proofs.Enclosed.{beta-between, beta-narrow}
use Rattle.deficiency_reserve.specs.Premiums.{adequacy_by}
use Rattle.deficiency_reserve.specs.RoundedMinimum.{rounded_minimum}
use Rattle.deficiency_reserve.specs.declared.answer.Adequacy.{Adequacy}
use Rattle.deficiency_reserve.proofs.Bounds.{has_ordinary}
use Rattle.policy_value.proofs.Statuses.{exact_minimum, least-other}
use Rattle.policy_value.proofs.measures.both.Goals as goal
use Rattle.policy_value.proofs.measures.both.Goals.{then-ne-via-then-ne, then-ne-via-else-ne+then-t-covered}
use Rattle.policy_value.specs.declared.worth.Worth.{Worth}
use Rattle.policy_value.specs.declared.worth.Worth.TheVariants.{Both}

-- two pairs as bounds of the reserve and of the minimum reserve
abbrev both_bounds : ℕ × ℕ → ℕ × ℕ → Adequacy → Worth
both_bounds ordinary least test = Both ordinary.0 ordinary.1 least.0 least.1 test

pub returns-then-ne-clause-exact : goal.returns-then-ne-clause-exact
returns-then-ne-clause-exact c =
    let policy = c.args.policy.now in
    let cover = cover_by c.args.covered.now in
    let cap = cap_by c.args.covered.now in
    let paid : policy.status ≡ InForce → c.args.covered.now.shape.h ≤ c.args.t = elim c.then-ne.branch [
      | then-ne-via-then-ne w ↦ search rules
      | then-ne-via-else-ne+then-t-covered w ↦ λ is. omega (arith, w.if-t-covered.true)
    ] in (
      c.bounds-lo.ensures.exact,
      least-other policy.status cover cap policy.amount policy.premium c.args.t c.bounds-lo.result.0 c.bounds-lo.result.1
          c.requires.amounts.0.0 paid c.bounds-lo.ensures.exact,
      λ due. absurd (omega (arith, paid due.0, due.1)),
    )

pub minimum_by-min_lo-requires-clause-made : goal.minimum_by-min_lo-requires-clause-made
minimum_by-min_lo-requires-clause-made c =
    let cover = cover_by c.args.covered.now in
    let cap = cap_by c.args.covered.now in
    let made = c.priced.ensures.made in
    record {
      cover = cover;
      cap = cap;
      year = c.args.t;
      has = has_ordinary cover cap c.args.t c.priced.result.0 c.priced.result.1 c.bounds_by-lo.result c.args.policy.now.amount made
          (c.bounds_by-lo.ensures.exact cover cap c.args.t made);
    }

pub returns-clause-both : goal.returns-clause-both
returns-clause-both c =
    let policy = c.args.policy.now in
    let cover = cover_by c.args.covered.now in
    let cap = cap_by c.args.covered.now in
    let made = c.priced.ensures.made in
    let in_force : policy.status ≡ InForce = search rules in
    let due : c.args.t < c.args.covered.now.shape.h = omega (arith, c.if-t-covered.false) in
    let ordinary = c.bounds_by-lo.result in
    let has = has_ordinary cover cap c.args.t c.priced.result.0 c.priced.result.1 ordinary policy.amount made (c.bounds_by-lo.ensures.exact cover cap c.args.t made) in
    record {
      paying = λ paying.
          ap (λ (least : ℕ × ℕ). both_bounds ordinary least c.adequacy.result) (c.minimum_by-min_lo.ensures.rounded cover c.args.t has.values_are)
          ∙ ap (λ (test : Adequacy). both_bounds ordinary (rounded_minimum cover ordinary policy.amount policy.premium c.args.t) test) c.adequacy.ensures.rounded
          ∙ ap (λ (p : Premium). both_bounds ordinary (rounded_minimum cover ordinary policy.amount policy.premium c.args.t) (adequacy_by p.lo p.hi policy.amount policy.premium)) made.premium_is
          ∙ ap (λ (o : ℕ × ℕ). both_bounds o (rounded_minimum cover o policy.amount policy.premium c.args.t) (adequacy_by (beta_lo cover cap) (beta_hi cover cap) policy.amount policy.premium))
          (c.bounds_by-lo.ensures.rounded cover cap c.args.t made);
      other = λ none. absurd (none (in_force, due));
    }

pub returns-clause-exact : goal.returns-clause-exact
returns-clause-exact c =
    let policy = c.args.policy.now in
    let cover = cover_by c.args.covered.now in
    let cap = cap_by c.args.covered.now in
    let made = c.priced.ensures.made in
    let in_force : policy.status ≡ InForce = search rules in
    let ordinary = c.bounds_by-lo.result in
    let least = c.minimum_by-min_lo.result in
    let encloses = c.bounds_by-lo.ensures.exact cover cap c.args.t made in
    let has = has_ordinary cover cap c.args.t c.priced.result.0 c.priced.result.1 ordinary policy.amount made encloses in
    let between : Between c.priced.result.1.lo c.priced.result.1.hi UNIT (beta cover cap) = rw made.premium_is (beta-between cover cap made.reserved) in
    let narrow : c.priced.result.1.hi ≤ c.priced.result.1.lo + 100000 = rw made.premium_is (omega (arith, beta-narrow cover cap made.reserved)) in (
      subst (λ (status : Status). Encloses ordinary.0 ordinary.1 policy.amount (exact_reserve Terminal status cover cap c.args.t)) (sym in_force) encloses,
      subst (λ (status : Status). Encloses least.0 least.1 policy.amount (exact_minimum status cover cap policy.amount policy.premium c.args.t))
          (sym in_force) (c.minimum_by-min_lo.ensures.exact cover cap c.args.t has),
      λ due. c.adequacy.ensures.means cover cap between narrow,
    )

pub returns-clause-most : goal.returns-clause-most
returns-clause-most c =
    let cover = cover_by c.args.covered.now in
    let cap = cap_by c.args.covered.now in
    let made = c.priced.ensures.made in
    let encloses = c.bounds_by-lo.ensures.exact cover cap c.args.t made in
    let has = has_ordinary cover cap c.args.t c.priced.result.0 c.priced.result.1 c.bounds_by-lo.result c.args.policy.now.amount made encloses in (
      ordered _ _ _ _ encloses.between,
      c.bounds_by-lo.ensures.most,
      ordered _ _ _ _ (c.minimum_by-min_lo.ensures.exact cover cap c.args.t has).between,
      omega (arith, c.minimum_by-min_lo.ensures.most, c.bounds_by-lo.ensures.most),
    )

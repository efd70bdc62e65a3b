use Rattle.std.proofs.Common.{◌-◌, arith, ap, ◌∙◌}
use Rattle.crvm_reserve.proofs.Tables.{limit_due, renewal_due, level_lo_is, level_hi_is, term_is, excess_lo_is, excess_hi_is}
use Rattle.crvm_reserve.proofs.premium.excess_premium.Goals as goal

pub level_premium-cap-requires-clause-due : goal.level_premium-cap-requires-clause-due
level_premium-cap-requires-clause-due c = (limit_due c.requires.cover c.requires.cap c.args.parts c.requires.are).lo

pub level_premium-cap-requires-clause-due_most : goal.level_premium-cap-requires-clause-due_most
level_premium-cap-requires-clause-due_most c = (limit_due c.requires.cover c.requires.cap c.args.parts c.requires.are).hi

pub level_premium-cap-requires-clause-lo : goal.level_premium-cap-requires-clause-lo
level_premium-cap-requires-clause-lo c = omega (arith, (limit_due c.requires.cover c.requires.cap c.args.parts c.requires.are).ben_lo)

pub level_premium-cap-requires-clause-hi : goal.level_premium-cap-requires-clause-hi
level_premium-cap-requires-clause-hi c = omega (arith, (limit_due c.requires.cover c.requires.cap c.args.parts c.requires.are).ben_hi)

pub level_premium-renewal-requires-clause-due : goal.level_premium-renewal-requires-clause-due
level_premium-renewal-requires-clause-due c = (renewal_due c.requires.cover c.requires.cap c.args.parts c.requires.are).lo

pub level_premium-renewal-requires-clause-due_most : goal.level_premium-renewal-requires-clause-due_most
level_premium-renewal-requires-clause-due_most c = (renewal_due c.requires.cover c.requires.cap c.args.parts c.requires.are).hi

pub level_premium-renewal-requires-clause-lo : goal.level_premium-renewal-requires-clause-lo
level_premium-renewal-requires-clause-lo c = omega (arith, (renewal_due c.requires.cover c.requires.cap c.args.parts c.requires.are).ben_lo)

pub level_premium-renewal-requires-clause-hi : goal.level_premium-renewal-requires-clause-hi
level_premium-renewal-requires-clause-hi c = omega (arith, (renewal_due c.requires.cover c.requires.cap c.args.parts c.requires.are).ben_hi)

pub returns-clause-lo : goal.returns-clause-lo
returns-clause-lo c = λ cover cap are.
    let term = term_is cover cap c.args.parts are in
    let renewal = c.level_premium-renewal.ensures.lo ∙ level_lo_is cover c.args.parts.renewal 1 are.renewal in
    let limit = c.level_premium-cap.ensures.lo ∙ level_lo_is cap c.args.parts.limit 0 are.limit in
    c.saturating_sub.ensures ∙ ap (λ k. k - c.first_year_premium-first.result.hi) c.min.ensures
    ∙ excess_lo_is cover cap _ _ _ renewal limit (c.first_year_premium-first.ensures.hi ∙ term.1)

pub returns-clause-hi : goal.returns-clause-hi
returns-clause-hi c = λ cover cap are.
    let term = term_is cover cap c.args.parts are in
    let renewal = c.level_premium-renewal.ensures.hi ∙ level_hi_is cover c.args.parts.renewal 1 are.renewal in
    let limit = c.level_premium-cap.ensures.hi ∙ level_hi_is cap c.args.parts.limit 0 are.limit in
    c.saturating_sub-2.ensures ∙ ap (λ k. k - c.first_year_premium-first.result.lo) c.min-2.ensures
    ∙ excess_hi_is cover cap _ _ _ renewal limit (c.first_year_premium-first.ensures.lo ∙ term.0)

use Rattle.std.proofs.Common.{arith, ◌∙◌, ◌<◌}
use Rattle.crvm_reserve.proofs.MeanValues.{mean_parts_at}
use Rattle.crvm_reserve.proofs.MeanEnclosed.{net-close, mean_end, mean_reserve_end}
use Rattle.crvm_reserve.proofs.mean.mean_bounds.Goals as goal

pub mean_by-requires-clause-made : goal.mean_by-requires-clause-made
mean_by-requires-clause-made c =
    let made = c.requires.made in
    let before : c.args.t < made.cover.n = omega (arith, made.made.columns_are.years, c.requires.year, c.if-t-columns.false) in
    let now = c.at.ensures made.cover made.made.columns_are (omega (arith, before)) in
    let next = c.at-2.ensures made.cover made.made.columns_are (omega (arith, before)) in
    record {
      cover = made.cover;
      cap = made.cap;
      year = c.args.t;
      are = mean_parts_at made.cover made.cap c.args.columns.now c.args.premium.now c.args.t _ _ made.made before now next;
    }

pub returns-then-t-columns-clause-rounded : goal.returns-then-t-columns-clause-rounded
returns-then-t-columns-clause-rounded c = λ cover cap made.
    c.reserve_bounds.ensures.rounded cover cap made
    ∙ mean_end cover cap c.args.amount c.args.t (omega (arith, made.columns_are.years, c.if-t-columns.true))

pub returns-then-t-columns-clause-exact : goal.returns-then-t-columns-clause-exact
returns-then-t-columns-clause-exact c = λ cover cap made.
    rw (mean_reserve_end cover cap c.args.t (omega (arith, made.columns_are.years, c.if-t-columns.true)))
    (c.reserve_bounds.ensures.exact cover cap made)

pub returns-then-t-columns-clause-close : goal.returns-then-t-columns-clause-close
returns-then-t-columns-clause-close c = λ cover cap made. net-close cover cap c.args.t made.reserved

pub returns-clause-rounded : goal.returns-clause-rounded
returns-clause-rounded c = λ cover cap made.
    let before : c.args.t < cover.n = omega (arith, made.columns_are.years, c.requires.year, c.if-t-columns.false) in
    let now = c.at.ensures cover made.columns_are (omega (arith, before)) in
    let next = c.at-2.ensures cover made.columns_are (omega (arith, before)) in
    c.mean_by.ensures.rounded cover cap c.args.t (mean_parts_at cover cap c.args.columns.now c.args.premium.now c.args.t _ _ made before now next)

pub returns-clause-exact : goal.returns-clause-exact
returns-clause-exact c = λ cover cap made.
    let before : c.args.t < cover.n = omega (arith, made.columns_are.years, c.requires.year, c.if-t-columns.false) in
    let now = c.at.ensures cover made.columns_are (omega (arith, before)) in
    let next = c.at-2.ensures cover made.columns_are (omega (arith, before)) in
    c.mean_by.ensures.exact cover cap c.args.t (mean_parts_at cover cap c.args.columns.now c.args.premium.now c.args.t _ _ made before now next)

pub returns-clause-close : goal.returns-clause-close
returns-clause-close c = λ cover cap made. net-close cover cap c.args.t made.reserved

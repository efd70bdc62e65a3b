use Rattle.cash_projection.proofs.Names.{◌+◌, ◌≡◌, ap, ◌∙◌, arith, drop, get_or-take, pair_at, pair_of}
use Rattle.std.proofs.lemmas.Grind.{get_or_after_one}
use Rattle.cash_projection.proofs.path.SurvivalPath.alive_at_end.Goals as goal

pub returns-clause-each : goal.returns-clause-each
returns-clause-each c = λ j below.
    let alive = c.args.self.now.alive in
    let place : 1 + j ≡ j + 1 = omega arith in
    get_or-take 131 (drop 1 alive) j (pair_of 0 0) below ∙ get_or_after_one alive j (pair_of 0 0) ∙ ap (λ k. pair_at alive k) place

use Rattle.policy_value.proofs.Names.{rules, ◌≡◌, reserve, exact_reserve, Terminal, cap_by, cover_by}
use Rattle.policy_value.proofs.measures.bounds.Goals as goal

pub bounds_by_unit-requires-clause-made : goal.bounds_by_unit-requires-clause-made
bounds_by_unit-requires-clause-made c =
    let covered = c.args.covered.now in
    record { cover = cover_by covered; cap = cap_by covered; year = c.args.t; made = c.unit-unit.ensures.unit }

pub returns-clause-exact : goal.returns-clause-exact
returns-clause-exact c =
    let cover = cover_by c.args.covered.now in
    let cap = cap_by c.args.covered.now in
    let same : exact_reserve Terminal c.args.policy.now.status cover cap c.args.t ≡ reserve cover cap c.args.t = search rules in
    rw same (c.bounds_by_unit.ensures.exact cover cap c.args.t c.unit-unit.ensures.unit)

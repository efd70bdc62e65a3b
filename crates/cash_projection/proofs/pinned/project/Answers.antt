use Rattle.cash_projection.proofs.Names.{◌≡◌, w32, to_z, of_z, to_z-of_z}
use Rattle.cash_projection.proofs.pinned.project.Goals as goal

pub returns-clause-projected : goal.returns-clause-projected
returns-clause-projected g c =
    let on : to_z w32 (of_z w32 c.args.on) ≡ c.args.on = to_z-of_z w32 c.args.on c.ranges.on in
    rw on at c.read_pinned.ensures.made

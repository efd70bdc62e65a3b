use Rattle.std.proofs.Common.{rules}
use Rattle.life_app.proofs.modes.obey.Goals as goal

pub returns-in-Ok-Run-clause-does : goal.returns-in-Ok-Run-clause-does
returns-in-Ok-Run-clause-does g c = rw (c.beside.ensures.disk, c.beside.ensures.ending, c.beside.ensures.second) (search rules)

pub returns-in-Ok-Value-clause-does : goal.returns-in-Ok-Value-clause-does
returns-in-Ok-Value-clause-does g c =
    rw (c.beside-in-Ok-Value.ensures.disk, c.beside-in-Ok-Value.ensures.ending, c.beside-in-Ok-Value.ensures.second) (search rules)

pub returns-in-Ok-Project-clause-does : goal.returns-in-Ok-Project-clause-does
returns-in-Ok-Project-clause-does g c =
    rw (c.beside-in-Ok-Project.ensures.disk, c.beside-in-Ok-Project.ensures.ending, c.beside-in-Ok-Project.ensures.second) (search rules)

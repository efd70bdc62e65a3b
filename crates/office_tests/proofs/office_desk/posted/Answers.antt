use Rattle.std.proofs.Common.{[], ◌∷◌, ◌++◌}
use Rattle.office_tests.proofs.office_desk.posted.Goals as goal

pub invariant_of-desk : goal.invariant_of-desk
invariant_of-desk g c =
    let stood = c.desk.invariant in (stood.0 ++ _ ∷ [], c.post.ensures.stands stood.0 stood.1)

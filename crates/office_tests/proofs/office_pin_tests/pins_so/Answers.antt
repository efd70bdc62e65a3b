use Rattle.std.proofs.Common.{[], ◌∷◌, ◌++◌}
use Rattle.office_tests.proofs.office_pin_tests.pins_so.Goals as goal

pub invariant_of-desk : goal.invariant_of-desk
invariant_of-desk c =
    let stood = c.desk.invariant in (stood.0 ++ _ ∷ [], c.pin.ensures.stands stood.0 stood.1)

pub invariant_of-desk-in-At : goal.invariant_of-desk-in-At
invariant_of-desk-in-At c =
    let stood = c.desk.invariant in (stood.0 ++ _ ∷ [], c.pin_at.ensures.stands stood.0 stood.1)

pub invariant_of-desk-in-Trim : goal.invariant_of-desk-in-Trim
invariant_of-desk-in-Trim c =
    let stood = c.desk.invariant in (stood.0 ++ _ ∷ [], c.trim.ensures.stands stood.0 stood.1)

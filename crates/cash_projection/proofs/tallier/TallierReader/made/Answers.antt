use Rattle.cash_projection.proofs.Names.{FitsSigned, refl, rules, ◌∙◌, w32, to_z, of_z, to_z-of_z}
use Rattle.cash_projection.proofs.RoomSteps.{projection_at, whole_sized}
use Rattle.cash_projection.proofs.tallier.TallierReader.made.Goals as goal

pub cash-requires : goal.cash-requires
cash-requires g c =
    let plan = c.requires.begun.0 in
    let read = c.requires.begun.1 in
    (whole_sized plan.basis.now plan.on plan.years read.0 c.tally_room.new.self
    (c.in_ok-tally_room.ensures.tallied plan.basis.now plan.on plan.years read.0 read.1) c.in_ok-tally_room.ensures.none read.2).0

pub returns : goal.returns
returns g c = λ plan policies has few sound.
    let fits : FitsSigned w32 c.args.self.on = search rules in
    let left = c.tally_room.new.self in
    projection_at plan.basis.now plan.on plan.years policies left
    (c.in_ok-tally_room.ensures.tallied plan.basis.now plan.on plan.years policies has) c.in_ok-tally_room.ensures.none few c.args.position
    (record {
      position = c.args.position;
      on = to_z w32 (of_z w32 c.args.self.on);
      policies = left.tally.policies;
      unvalued = left.tally.unvalued;
      years = c.in_ok-years.years;
    })
    refl (to_z-of_z w32 c.args.self.on fits ∙ has.day) refl c.in_ok-years.ensures

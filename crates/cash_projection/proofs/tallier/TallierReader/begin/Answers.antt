use Rattle.cash_projection.proofs.Names.{◌≡◌, ◌≤◌, FitsSigned, w32, to_z, of_z, arith, rules, to_z-of_z}
use Rattle.cash_projection.proofs.RoomSteps.{none_read}
use Rattle.cash_projection.proofs.tallier.TallierReader.begin.Goals as goal

pub returns : goal.returns
returns c =
    let plan = c.args.plan in
    let fits : FitsSigned w32 c.args.plan.on = search rules in
    let on : to_z w32 (of_z w32 c.args.plan.on) ≡ c.args.plan.on = to_z-of_z w32 c.args.plan.on fits in
    let some : 1 ≤ c.clamp-many.result = search rules in
    let few : c.clamp-many.result ≤ 64 = search rules in
    none_read plan.basis.now plan.on plan.years
    (record { on = to_z w32 (of_z w32 c.args.plan.on); projectors = c.in_ok-projectors.projectors; room = c.in_ok-room.room; tally = c.new-tally.result })
    on c.requires.0 (omega (arith, some, c.in_ok-projectors.ensures.many)) (omega (arith, few, c.in_ok-projectors.ensures.many))
    (rw on at c.in_ok-projectors.ensures.each) c.in_ok-room.ensures.items (c.new-tally.ensures plan.basis.now plan.on)

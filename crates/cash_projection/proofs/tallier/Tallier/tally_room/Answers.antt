use Rattle.cash_projection.proofs.Names.{refl, rules, AreAsBefore, GivesTally, TakesPortion}
use Rattle.std.specs.Vec.{with_items}
use Rattle.cash_projection.proofs.RoomSteps.{can_join_room, room_tallied, still_with}
use Rattle.cash_projection.proofs.tallier.Tallier.tally_room.Goals as goal

pub join-requires : goal.join-requires
join-requires g c =
    let can = c.requires.can in
    let is = rw c.as_slice-policies.ensures.value at
    (c.in_ok-tally.ensures.tally can.basis can.on (rw c.as_mut_slice-projectors.ensures.value can.has.each)) in
    let both = can_join_room c.args.self.now can c.in_ok-tally.tally is in
    record { years = both.years; few = both.few; ours = both.ours; theirs = both.theirs }

pub returns-clause-tallied : goal.returns-clause-tallied
returns-clause-tallied g c = λ basis on years policies has.
    let old = c.args.self.now in
    let still : AreAsBefore TakesPortion GivesTally c.args.self.now.projectors.items c.tally_in.new.projectors = search rules in
    let is = rw c.as_slice-policies.ensures.value at
    (c.in_ok-tally.ensures.tally basis on (rw c.as_mut_slice-projectors.ensures.value has.each)) in
    room_tallied basis on years policies old
    (record { on = old.on; projectors = with_items old.projectors c.tally_in.new.projectors; room = c.clear.new.self; tally = c.join.new.self })
    has (still_with old.projectors c.tally_in.new.projectors still) refl c.clear.ensures.items
    (c.join.ensures basis on has.tallied old.room.items has.is is)

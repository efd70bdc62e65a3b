use Rattle.policy_value.proofs.Names.{◌≡◌, ◌<◌, Option, Some, length, ap, arith, ◌∙◌, All-set, length-set, IsRightPlace, kept_unit, unit_place}
use Rattle.policy_value.specs.declared.units.KeptUnit.{KeptUnit}
use Rattle.policy_value.proofs.PerUnit.{holds_set}
use Rattle.policy_value.proofs.units.UnitStore.keep.Goals as goal

pub returns-clause-right : goal.returns-clause-right
returns-clause-right c = λ basis right all.
    let places = c.make_room.new.self.places.items in
    let one : Option KeptUnit = Some (kept_unit c.args.key c.args.t c.args.unit) in
    let count = length-set places c.place_of-place.result one in
    let store = c.make_room.ensures.store in
    record {
      store = record { some = rw count store.some; few = rw count store.few; most = store.most; room = store.room };
      places = All-set (IsRightPlace basis) places c.place_of-place.result one right (c.make_room.ensures.right basis all.places);
    }

pub returns-clause-holds : goal.returns-clause-holds
returns-clause-holds c =
    let places = c.make_room.new.self.places.items in
    let within : c.place_of-place.result < length places = omega (arith, c.place_of-place.ensures.within, c.len.ensures) in
    let count : c.len.result ≡ length places = omega (arith, c.len.ensures) in
    holds_set places c.args.key c.args.t c.args.unit c.place_of-place.result
    (c.place_of-place.ensures.is ∙ ap (λ n. unit_place c.args.key c.args.t n) count) within

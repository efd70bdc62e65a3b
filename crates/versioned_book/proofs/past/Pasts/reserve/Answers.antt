use Rattle.std.proofs.Common.{refl, sym, ◌∙◌, vec_len, vec_capacity, ◌<◌, arith, rules}
use Rattle.versioned_book.proofs.PastSteps.{olders_same, own_there, places-set, room_new, room_there}
use Rattle.versioned_book.proofs.Places.{on_ok}
use Rattle.versioned_book.proofs.past.Pasts.reserve.Goals as goal

pub returns-then-is_of-clause-places : goal.returns-then-is_of-clause-places
returns-then-is_of-clause-places g c =
    let items = c.args.self.now.list.items in
    let past = c.index_mut.result.now in
    places-set items c.args.place past _ (own_there items c.args.place c.args.key past (sym c.is_of.ensures ∙ c.if-is_of.true) c.index_mut.ensures.value).0 refl refl

pub returns-then-is_of-clause-olders : goal.returns-then-is_of-clause-olders
returns-then-is_of-clause-olders g c =
    let items = c.args.self.now.list.items in
    let past = c.index_mut.result.now in
    olders_same items c.args.place past _ (own_there items c.args.place c.args.key past (sym c.is_of.ensures ∙ c.if-is_of.true) c.index_mut.ensures.value).0 refl c.reserve_one.ensures.items

pub returns-then-is_of-clause-room : goal.returns-then-is_of-clause-room
returns-then-is_of-clause-room g c =
    on_ok c.reserve_one.result
    (λ room. room_there _ c.args.self.now.list.items c.args.place c.args.key c.index_mut.result.now _ refl (sym c.is_of.ensures ∙ c.if-is_of.true) c.index_mut.ensures.value refl
    (omega (arith, room)))
    c.reserve_one.ensures.room

pub returns-clause-room : goal.returns-clause-room
returns-clause-room g c =
    let listing : vec_len c.reserve.new.items < vec_capacity c.reserve.new.items = search rules in
    on_ok c.reserve_exact.result
    (λ room. room_new _ c.args.self.now.list.items c.args.place c.args.key c.reserve.ensures.items (sym c.is_of.ensures ∙ c.if-is_of.false) listing (omega (arith, room)))
    c.reserve_exact.ensures.ok

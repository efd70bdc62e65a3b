use Rattle.versioned_book.proofs.Names.{refl, sym, ap, ◌∙◌, length, arith, slice_get_within, nat_eq, keys, places_in, Chain}
use Rattle.indexmap.proofs.CallerLemmas.{insert_entry-new}
use Rattle.versioned_book.proofs.Apart.{key_there}
use Rattle.versioned_book.proofs.Looking.{ok_of}
use Rattle.versioned_book.proofs.BookSteps.{as_many, set_more}
use Rattle.versioned_book.proofs.KeptFew.{book_apart}
use Rattle.versioned_book.proofs.PastSteps.{few_after, places_apart, seen_there, told_after}
use Rattle.versioned_book.proofs.SettingSteps.{rising-few}
use Rattle.versioned_book.proofs.FirstSetting.{set_first}
use Rattle.versioned_book.proofs.Places.{found_at, none_at, placed, within_at}
use Rattle.versioned_book.proofs.book.VersionedBook.set_at.Goals as goal

pub pair_mut-chain-requires : goal.pair_mut-chain-requires
pair_mut-chain-requires g c = within_at c.args.self.now.chains c.args.place.key c.in-Some.index (sym c.requires.place ∙ c.in-Some.is)

pub overflow_cast-index : goal.overflow_cast-index
overflow_cast-index g c =
    let s = c.requires.stands in
    let e = c.pair_mut-chain.ensures in
    let there = key_there c.args.self.now.chains.entries c.in-Some.index c.pair_mut-chain.result.0.now c.pair_mut-chain.result.1.now e.value in
    omega (
      arith,
      slice_get_within (keys c.args.self.now.chains) c.in-Some.index c.pair_mut-chain.result.0.now there,
      ap length s.1.order,
      as_many c.args.self.now s.0 s.1,
      rising-few 0 c.args.self.now.firsts.items c.args.self.now.last s.1.firsts,
      c.requires.rising,
      c.ranges.position,
    )

pub push-past-requires : goal.push-past-requires
push-past-requires g c =
    let s = c.requires.stands in
    let book = c.args.self.now in
    let chain = c.pair_mut-chain.result.1.now in
    let apart = book_apart book s.0 s.1 in
    let found = found_at book.chains c.args.place.key c.in-Some.index (sym c.requires.place ∙ c.in-Some.is) c.pair_mut-chain.result.0.now chain c.pair_mut-chain.ensures.value in
    record {
      room = c.requires.room.more chain found;
      apart = places_apart book.chains.entries (places_in book.pasts) apart s.1.told;
      seen = seen_there book.chains.entries (places_in book.pasts) apart s.1.told c.args.place.key chain found;
      few = omega (arith, s.1.few, c.requires.rising, c.ranges.position);
    }

pub returns-in-Some-clause-book : goal.returns-in-Some-clause-book
returns-in-Some-clause-book g c sets h =
    let e = c.pair_mut-chain.ensures in
    let book = c.args.self.now in
    let chain = c.pair_mut-chain.result.1.now in
    let more : Chain g.row.V.Denot = record { past = c.push-past.result; position = c.args.position; value = c.args.value } in
    let p = placed book.chains c.args.place.key c.in-Some.index c.pair_mut-chain.result.0.now chain more (sym c.requires.place ∙ c.in-Some.is) e.value e.unique in
    let after = c.push-past.ensures.places in
    let few = few_after (places_in book.pasts) _ c.args.place.key c.in-Some.index chain.past c.push-past.result after in
    set_more book _ sets (record { key = c.args.place.key; position = c.args.position; value = c.args.value }) chain more p.found p.updates p.same
    c.push-past.ensures.olders refl refl refl refl refl c.requires.rising
    (told_after book.chains.entries (places_in book.pasts) _ c.args.place.key c.in-Some.index chain more p.entry h.told after)
    (omega (arith, few, h.few, c.requires.rising)) h

pub returns-in-None-clause-book : goal.returns-in-None-clause-book
returns-in-None-clause-book g c sets h =
    let absent = none_at c.args.self.now.chains c.args.place.key (sym c.requires.place ∙ c.in-None.is) in
    let chain : Chain g.row.V.Denot = record { past = 0; position = c.args.position; value = c.args.value } in
    set_first c.args.self.now _ sets (record { key = c.args.place.key; position = c.args.position; value = c.args.value }) chain absent
    (ok_of c.insert.result c.unwrap.result c.unwrap.ensures c.insert.ensures.updates)
    (ok_of c.insert.result c.unwrap.result c.unwrap.ensures c.insert.ensures.entries ∙ insert_entry-new nat_eq c.args.self.now.chains c.args.place.key chain absent)
    refl c.push_reserved.ensures.items refl refl refl c.requires.rising refl h

pub push_reserved-requires : goal.push_reserved-requires
push_reserved-requires g c =
    (c.requires.room.fresh (none_at c.args.self.now.chains c.args.place.key (sym c.requires.place ∙ c.in-None.is))).1

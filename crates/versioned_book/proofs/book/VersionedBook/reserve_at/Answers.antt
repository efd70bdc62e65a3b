use Rattle.versioned_book.proofs.Names.{◌≡◌, None, Some, nat_eq, ap, sym, ◌∙◌, subst, vec_len, vec_capacity, ◌<◌, arith, rules, lookup, option_map, deref_pair, HasPastRoom}
use Rattle.versioned_book.proofs.Places.{found_at, none_at, on_ok}
use Rattle.versioned_book.proofs.VersionSteps.{some_same}
use Rattle.versioned_book.proofs.book.VersionedBook.reserve_at.Goals as goal

pub returns-in-Some-clause-room : goal.returns-in-Some-clause-room
returns-in-Some-clause-room g c =
    let pair = c.unwrap.result in
    let entry = sym c.get_index.ensures.entry ∙ ap (option_map deref_pair) c.unwrap.ensures in
    let found = found_at c.args.self.now.chains c.args.place.key c.in-Some.index (sym c.requires.place ∙ c.in-Some.is) pair.0.now pair.1.now entry in
    on_ok c.reserve.result
    (λ room. record {
      fresh = λ none. (let clash : Some pair.1.now ≡ None = sym found ∙ none in cc);
      more = λ chain got. subst (λ x. HasPastRoom c.reserve.new.self c.args.place.key x.past) (some_same pair.1.now chain (sym found ∙ got)) room;
    })
    c.reserve.ensures.room

pub returns-in_ok-reserve-in-None-clause-room : goal.returns-in_ok-reserve-in-None-clause-room
returns-in_ok-reserve-in-None-clause-room g c =
    let none = none_at c.args.self.now.chains c.args.place.key (sym c.requires.place ∙ c.in-None.is) in
    let listing : vec_len c.reserve-in-None.new.items < vec_capacity c.reserve-in-None.new.items = search rules in
    on_ok c.reserve_keys.result
    (λ spare. record {
      fresh = λ still. (omega (arith, spare), listing);
      more = λ chain got. (let clash : Some chain ≡ None = sym got ∙ ap (lookup (nat_eq c.args.place.key)) c.reserve_keys.ensures.entries ∙ none in cc);
    })
    c.reserve_keys.ensures.ok

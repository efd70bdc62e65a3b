use Rattle.policy_value.proofs.Names.{◌≡◌, ◌<◌, Some, length, set, slice_get, subst, sym, true≢false, ◌∙◌, get_or-set_same, length-set, HasAgeAt}
use Rattle.std.proofs.lemmas.Option.{get_or_from_slice_get, slice_get_read}
use Rattle.policy_value.proofs.Putting.{later_age}
use Rattle.policy_value.proofs.columns.ColumnStore.place_of.Goals as goal

pub keep-place-requires-clause-right : goal.keep-place-requires-clause-right
keep-place-requires-clause-right c = c.make_room.ensures.right c.args.basis.now c.requires.right

pub returns-clause-kept : goal.returns-clause-kept
returns-clause-kept c = later_age _ _ _ _ _ c.lowest_of-lowest.ensures.1 c.keep-place.ensures.kept

pub returns-clause-slot : goal.returns-clause-slot
returns-clause-slot c =
    let places = c.keep-place.new.self.places.items in
    let slot = c.slot_of-slot.result in
    let place = c.keep-place.result in
    let count = c.keep-place.ensures.right.store.slots in
    let inside : slot < length places = rw count c.slot_of-slot.ensures.within in
    record {
      written = subst (λ k. slice_get (set places slot place) k ≡ Some place) c.slot_of-slot.ensures.is
          (slice_get_read (set places slot place) 65536 slot place (sym (length-set places slot place ∙ count)) c.slot_of-slot.ensures.within (sym (get_or-set_same places slot place place inside)));
      lies = later_age _ _ _ _ _ c.lowest_of-lowest.ensures.1 c.keep-place.ensures.kept;
    }

pub returns-clause-found : goal.returns-clause-found
returns-clause-found c = λ place at.
    let places = c.args.self.now.places.items in
    let written = subst (λ k. slice_get places k ≡ Some place) (sym c.slot_of-slot.ensures.is) at.written in
    let is = c.index.ensures ∙ get_or_from_slice_get places c.slot_of-slot.result place c.index.result.now written in
    let lies : HasAgeAt c.args.self.now.kept.items c.index.result.now c.args.key c.args.age = rw is at.lies in
    absurd (true≢false (sym (c.lies_at.ensures.1 lies) ∙ c.if-lies_at.false))

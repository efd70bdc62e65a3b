-- What the steps of a call make of a pass, in the words of its contract.
use Rattle.turn_lock.proofs.Names.{◌≡◌, ℕ, ◌<◌, ◌≤◌, ◌≢◌, List, [], ◌∷◌, sym, refl, ap, ◌∙◌, subst, arith, Option, Entry, Holding, Page, all_turns, all_shares, PassFacts, Enters, Kept, View, SeatFacts, own, first_view, kept_half, given_half, named, IsNow, IsPass, holding}
use Rattle.atomic_table.specs.declared.shared.Seat.{Seat}
use Rattle.atomic_table.specs.Seated.{TableId}
use Rattle.turn_lock.specs.inside.Steps.{Sat}
use Rattle.turn_lock.proofs.Pages.{all_weaker, all_numbers, distinct_one}

abbrev S : Type 0 → Type 0 → Type 0
S T O = Seat (Option (Kept T)) (View O)

module _ {T O : Type 0} (legal : O → List Entry → Type 0) where
  -- what contracts see, from the table and the view
  abbrev seen_as : TableId → Sat T O → Holding O
  seen_as table me = record {
    turnstile = table;
    opening = me.0.opened;
    caller = me.0.number;
    left = me.0.left;
    shares = me.0.shares;
    seen = me.0.seen;
    made = me.0.made;
    ended = me.0.ended;
  }

  now_as : (old new : S T O) (me : Sat T O) → IsNow old new me → holding new ≡ seen_as old.table_id me
  now_as old new me now = λ i. seen_as (now.0 i) (now.2 i)

  pub facts_of : (place : S T O) → SeatFacts legal place.me.0 → PassFacts legal (holding place)
  facts_of place f = record { lawful = f.lawful; paged = f.paged; apart = f.apart }

  pub enters : (p : Holding O) (old kept half given : S T O) (n : ℕ) → holding old ≡ p → IsNow old kept (kept_half old.me.0, old.me.1) → (half.table_id ≡ old.table_id) × (half.me ≡ (given_half old.me.0, []))
      → IsNow half given (named half.me.0 n, half.me.1) → half.me.0.names ≤ n → SeatFacts legal old.me.0 → Enters p (holding kept) (holding given)
  enters p old kept half given n is_p kept_now half_is given_now fresh facts =
      let v : View O = old.me.0 in let g = ap (λ (m : Sat T O). m.0) half_is.1 in let below : v.names ≤ n = subst (λ (u : View O). u.names ≤ n) g fresh in
      let table : given.table_id ≡ old.table_id = given_now.0 ∙ half_is.0 in
      let me_is : given.me ≡ (named (given_half v) n, []) = given_now.2 ∙ λ i. (named (g i) n, (half_is.1 i).1) in
      let is_n : given.me.0.number ≡ n = ap (λ (m : Sat T O). m.0.number) me_is in subst (λ (z : Holding O). Enters z (holding kept) (holding given)) is_p record {
        kept_is = now_as old kept (kept_half v, old.me.1) kept_now;
        given_is = (λ i. seen_as (table i) (me_is i)) ∙ (λ i. let u : View O = record (named (given_half v) n) { number = sym is_n i } in seen_as old.table_id (u, []));
        new_number = all_numbers (λ k. k ≢ given.me.0.number) (own v ∷ v.ended) (all_weaker (λ (p : Page). p.0 < v.names) (λ (p : Page). p.0 ≢ given.me.0.number) (own v ∷ v.ended)
            (λ p l e. let same_n : p.0 ≡ n = e ∙ is_n in omega arith) facts.below);
      }

  pub first_pass : (o : O) (me : Sat T O) → me ≡ (first_view o, []) → legal o [] → IsPass legal me 0 all_turns all_shares
  first_pass o me is lawful = subst (λ (m : Sat T O). IsPass legal m 0 all_turns all_shares) (sym is) record {
    idle = refl;
    bare = refl;
    caller_is = refl;
    left_is = refl;
    shares_is = refl;
    facts = record { lawful = (o, refl, lawful); paged = (refl, tt); apart = distinct_one 0; below = (omega arith, tt); left_fits = omega arith; shares_fit = omega arith };
  }

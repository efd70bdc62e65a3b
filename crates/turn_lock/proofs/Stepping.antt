-- Name, take, compare and give keep the rule, and state what they report.
use Rattle.turn_lock.proofs.Names.{◌≡◌, ℕ, ◌+◌, ◌%◌, ◌^◌, ◌<◌, ◌≤◌, ◌≢◌, Bool, cond, eqb, List, [], ◌∷◌, ◌++◌, length, get_or, set, sym, refl, ap, ◌∙◌, subst, inl, inr, arith, Option, Some, None, eq-eqb, ne_eqb, length-append, dite, some, none, some-injective, ℕ_discrete, get_elem?, set_here, set_again, exchanged, AllByRecursion, Contains, State, step, Act, keeps, takes, gives, stepped, Allows, Entry, StartsWith, entries_of, Kept, View, Unnamed, Idle, Inside, IsLive, IsNamed, units_at, units, shares, own, pages, numbers, SeatFacts, named, inside, handed_on, compared, PageStands, StageStands, SeatStands, SlotStands, LockRule}
use mathlib.Core.Option as maybe
use prog.Atomic.{either}
use lib.Seq.{set-get_or}
use Rattle.atomic_table.specs.Table as table
use Rattle.turn_lock.specs.inside.Steps as steps
use Rattle.turn_lock.specs.inside.Steps.{Sat, IsTaken}
use Rattle.turn_lock.proofs.Entries.{entries-own, entries-other, entries-none, none_at_start, same_start, starts_more, starts_empty, nested}
use Rattle.turn_lock.proofs.Pages.{all_weaker, all_append, all_both, all_pages, distinct_head, distinct_one}
use Rattle.turn_lock.proofs.Totals.{has_place, total_one}
use Rattle.turn_lock.proofs.Knowing.{IsFree, named_live, named_pages, named_units, live_units, live_shares, own_pages, own_apart, own_below, told, stays, waits, follows}
use Rattle.turn_lock.proofs.Moving.{lies_still, moved}

-- a function of numbers, changed at one
pub put : (ℕ → ℕ) → ℕ → ℕ → ℕ → ℕ
put f i x j = cond (eqb j i) x (f j)

pub put_here : (f : ℕ → ℕ) (i x j : ℕ) → j ≡ i → put f i x j ≡ x
unfolding put
put_here f i x j e = ap (λ (b : Bool). cond b x (f j)) (eq-eqb j i e)

pub put_else : (f : ℕ → ℕ) (i x j : ℕ) → j ≢ i → put f i x j ≡ f j
unfolding put
put_else f i x j e = ap (λ (b : Bool). cond b x (f j)) (ne_eqb j i e)

module _ {T O : Type 0} (opens : T → O) (legal : O → List Entry → Type 0) (stands : T → List Entry → Type 0) (opening : O) where
  abbrev Rule : State (Option (Kept T)) (View O) → Type 0
  Rule = LockRule opens legal stands opening

  module _ (slots id : ℕ) (me : Sat T O) where
    abbrev v : View O
    v = me.0

    -- no seat has more than there is
    fits_in : (s : State (Option (Kept T)) (View O)) → Rule s → get_elem? s.views id ≡ some v → IsLive v.stage → (v.left ≤ 4611686018427387904) × (v.shares ≤ 4294967296)
    fits_in s r at live = let sum = r.units_left in let out = r.shares_out in let begun = r.begun in let one = total_one units s.views id v at in let two = total_one shares s.views id v at in
        let left = live_units v.stage v.left live in let share : shares v ≡ v.shares = live_shares v.stage v.shares live in (omega arith, omega arith)

    pub names : v.stage ≡ Unnamed → Allows Rule slots id me 1 (λ n. (n + 1) % 2 ^ 64) (steps.Names legal (step slots 1 1 0 none) me)
    names is s r deep at fits =
        let n : ℕ = get_or s.words 1 0 in let found : n ≡ r.names = ap (λ ws. get_or ws 1 0) r.words_are in let w : View O = named v n in let limit = r.units_left in
        let live : IsLive v.stage = subst IsLive (sym is) tt in let free : IsFree v.stage = subst IsFree (sym is) tt in let k = r.each_seat id v at live in
        let owner' : ℕ → ℕ = put r.owner n id in let next : (n + 1) % 18446744073709551616 ≡ r.names + 1 = omega arith in
        let none : entries_of r.history n ≡ [] = entries-none r.history r.names n (omega arith) r.theirs in
        let kept : (i : ℕ) → i < r.names → owner' i ≡ r.owner i = λ i l. put_else r.owner n id i (λ e. omega arith) in
        let mine : SeatStands legal opening r.history (r.names + 1) r.lock owner' r.holder id w = record {
          opened = k.opened;
          seen = k.seen;
          also = starts_empty r.history;
          lawful = k.lawful;
          sharing = k.sharing;
          paged = (record { given = omega arith; owned = put_here r.owner n id n refl; whole = none; shown = none_at_start r.history v.seen n k.seen none }, tt);
          apart = distinct_one n;
          counted = omega arith;
          below = (omega arith, tt);
          staged = tt;
        } in let was : units v ≡ v.left + 1 = ap (λ st. units_at st v.left) is in let share : shares v ≡ v.shares = live_shares v.stage v.shares live in (
          w,
          keeps,
          tt,
          moved opens legal stands opening s r id v w r.history r.lock (r.names + 1) owner' r.holder at (set s.words 1 ((n + 1) % 18446744073709551616)) s.homes r.slot tt
              (ap (λ ws. set ws 1 ((n + 1) % 18446744073709551616)) r.words_are ∙ ap (λ (x : ℕ). r.lock ∷ x ∷ []) next) r.slot_is (omega arith)
              (lies_still opens legal stands opening r.history r.lock r.holder s.views id v w r.slot at free r.lies) (all_weaker (λ e. e.caller < r.names) (λ e. e.caller < r.names + 1) r.history (λ e l. omega arith) r.theirs) mine
              (λ j d other q. stays legal opening r.history r.names (r.names + 1) r.lock r.owner owner' r.holder j d (omega arith) (λ i l e. kept i l ∙ e) q)
              (inr (refl, λ e. e))
              (λ i l. dite (ℕ_discrete i n) (λ e. inr (put_here r.owner n id i e, (0, omega arith, sym e))) (λ ne. inl (let lt : i < r.names = omega arith in (lt, kept i lt))))
              (λ i c. absurd (let l = c.1 in let none : length (numbers (pages v)) ≡ 0 = ap (λ st. length (numbers (Rattle.turn_lock.specs.inside.Seats.pages_at st (own v) v.ended))) is in omega arith))
              (omega arith) (sym share),
          (refl, (let c = k.counted in omega arith), told legal opening r.history (r.names + 1) r.lock owner' r.holder id w tt mine (fits_in s r at live)),
        )

    -- facts of a seat with a number, before its step
    module _ (s : State (Option (Kept T)) (View O)) (r : Rule s) (at : get_elem? s.views id ≡ some v) (is_named : IsNamed v.stage) where
      abbrev knows : SeatStands legal opening r.history r.names r.lock r.owner r.holder id v
      knows = r.each_seat id v at (named_live v.stage is_named)

      abbrev own_stands : AllByRecursion (PageStands legal opening r.history r.names r.owner id v.seen) (own v ∷ v.ended)
      own_stands = own_pages legal opening r.history r.names r.lock r.owner r.holder id v is_named knows

      -- the pages of v and those of w, where w has a number too
      pages_kept : (w : View O) → IsNamed w.stage → numbers (own v ∷ v.ended) ≡ numbers (own w ∷ w.ended) → (n : ℕ) → Contains (numbers (pages v)) n → Contains (numbers (pages w)) n
      pages_kept w is_named' same n c =
          subst (λ ns. Contains ns n) (ap numbers (named_pages v.stage (own v) v.ended is_named) ∙ (same ∙ ap numbers (sym (named_pages w.stage (own w) w.ended is_named')))) c

      share_kept : (w : View O) → IsNamed w.stage → w.shares ≡ v.shares → shares w ≡ shares v
      share_kept w is_named' same = live_shares w.stage w.shares (named_live w.stage is_named') ∙ (same ∙ sym (live_shares v.stage v.shares (named_live v.stage is_named)))

    pub compares : v.stage ≡ Idle → Allows Rule slots id me 0 (λ n. n) (steps.Compares legal (step slots 0 0 0 none) me)
    compares is s r deep at fits =
        let w : View O = compared v in let is_named : IsNamed v.stage = subst IsNamed (sym is) tt in let free : IsFree v.stage = subst IsFree (sym is) tt in let k = knows s r at is_named in
        let mine : SeatStands legal opening r.history r.names r.lock r.owner r.holder id w = record {
          opened = k.opened;
          seen = k.seen;
          also = starts_empty r.history;
          lawful = k.lawful;
          sharing = k.sharing;
          paged = k.paged;
          apart = k.apart;
          counted = k.counted;
          below = k.below;
          staged = k.staged;
        } in (
          w,
          keeps,
          tt,
          moved opens legal stands opening s r id v w r.history r.lock r.names r.owner r.holder at (set s.words 0 (get_or s.words 0 0)) s.homes r.slot (named_live v.stage is_named)
              (set-get_or s.words 0 0 ∙ r.words_are) r.slot_is r.begun
              (lies_still opens legal stands opening r.history r.lock r.holder s.views id v w r.slot at free r.lies) r.theirs mine (λ j d other q. q)
              (inr (refl, λ e. e)) (λ i l. inl (l, refl)) (λ i c. c) refl refl,
          (refl, (λ le. nested r.history v.seen v.also k.seen k.also le), told legal opening r.history r.names r.lock r.owner r.holder id w is_named mine (fits_in s r at (named_live v.stage is_named))),
        )

    -- if the value is given back, its turn is one page line more
    module _ (x : Kept T) (e : Entry) (word : ℕ) (is : v.stage ≡ Inside) (more : 1 ≤ v.left) (untaken : word ≢ 1) (carried : me.1 ≡ (0, Some x) ∷ []) (by : e.caller ≡ v.number) (stood : stands x.value (v.seen ++ e ∷ []))
        (opened : v.opened ≡ Some (opens x.value)) (turns : x.turns ≡ length v.seen + 1) where
      abbrev opening_or : O → Option O → O
      opening_or d (Some o) = o
      opening_or d None = d

      pub hands_on : ((y : T) (h : List Entry) → stands y h → legal (opens y) h) → Allows Rule slots id me 0 (λ _. word) (λ _. steps.HandsOn legal e (step slots 0 word 0 none) me word)
      hands_on law s r deep at fits =
          let h : List Entry = r.history in let h' : List Entry = h ++ e ∷ [] in
          let w : View O = handed_on v e in let limit = r.units_left in let is_named : IsNamed v.stage = subst IsNamed (sym is) tt in let k = knows s r at is_named in
          let st : StageStands legal opening h r.lock r.holder id v.seen Inside = subst (StageStands legal opening h r.lock r.holder id v.seen) is k.staged in
          let holds_it : r.holder ≡ id = st.1 in let saw : v.seen ≡ h = st.2 in
          let pages_are = own_stands s r at is_named in let first = pages_are.0 in let long : length h' ≡ length h + 1 = length-append h (e ∷ []) in
          let own_caller : r.owner e.caller ≡ id = ap r.owner by ∙ first.owned in let below : e.caller < r.names = subst (λ z. z < r.names) (sym by) first.given in
          let now : opens x.value ≡ opening = ap (opening_or opening) (sym opened ∙ k.opened) in
          let stood' : stands x.value h' = subst (λ l. stands x.value (l ++ e ∷ [])) saw stood in
          let turns' : x.turns ≡ length h' = turns ∙ (ap (λ l. length l + 1) saw ∙ sym long) in
          let apart' = own_apart legal opening h r.names r.lock r.owner r.holder id v is_named k in
          let mine : SeatStands legal opening h' r.names word r.owner r.holder id w = record {
            opened = k.opened;
            seen = subst (λ l. StartsWith h' (l ++ e ∷ [])) (sym saw) (same_start h');
            also = starts_more h v.also (e ∷ []) k.also;
            lawful = subst (λ o. legal o (v.seen ++ e ∷ [])) now (law x.value (v.seen ++ e ∷ []) stood);
            sharing = k.sharing;
            paged = (
              record {
                given = first.given;
                owned = first.owned;
                whole = entries-own h e v.number by ∙ ap (λ l. l ++ e ∷ []) first.whole;
                shown = entries-own v.seen e v.number by ∙ ap (λ l. l ++ e ∷ []) first.shown;
              },
              all_both (PageStands legal opening h r.names r.owner id v.seen) (λ p. p.0 ≢ v.number) (PageStands legal opening h' r.names r.owner id w.seen) v.ended
                  (λ p q ne. record {
                    given = q.given;
                    owned = q.owned;
                    whole = entries-other h e p.0 (λ z. ne (sym z ∙ by)) ∙ q.whole;
                    shown = entries-other v.seen e p.0 (λ z. ne (sym z ∙ by)) ∙ q.shown;
                  })
                  pages_are.1 (all_pages (λ z. z ≢ v.number) v.ended (distinct_head v.number (numbers v.ended) apart')),
            );
            apart = apart';
            counted = k.counted;
            below = own_below legal opening h r.names r.lock r.owner r.holder id v is_named k;
            staged = tt;
          } in let was : units v ≡ v.left = named_units v.stage v.left is_named in let had = fits_in s r at (named_live v.stage is_named) in let fit = had.0 in (
            w,
            gives,
            tt,
            moved opens legal stands opening s r id v w h' word r.names r.owner r.holder at (set s.words 0 word) (table.put_back s.homes me.1) (some (Some x)) tt
                (ap (λ ws. set ws 0 word) r.words_are)
                (ap (λ c. table.put_back s.homes c) carried ∙ ap (λ hs. set hs 0 (some (Some x))) r.slot_is) r.begun (untaken, stood', now, turns')
                (all_append (λ z. z.caller < r.names) h (e ∷ []) r.theirs (below, tt)) mine
                (λ j d other q. follows legal opening h e r.names r.lock word r.owner r.holder id j d other own_caller holds_it q)
                (inl (ap (λ l. l ++ e ∷ []) saw)) (λ i l. inl (l, refl)) (pages_kept s r at is_named w tt refl) (omega arith) (share_kept s r at is_named w tt refl),
            ((λ i. (w, table.rest (carried i))), told legal opening h' r.names word r.owner r.holder id w tt mine (omega arith, had.1)),
          )

    -- what a try to take leaves
    module _ (law : (y : T) (h : List Entry) → stands y h → legal (opens y) h) (word : ℕ) (untaken : word ≢ 1) (is : v.stage ≡ Idle) (more : 1 ≤ v.left) (s : State (Option (Kept T)) (View O)) (r : Rule s) (at : get_elem? s.views id ≡ some v) where
      abbrev n : ℕ
      n = get_or s.words 0 0

      -- where the lock's word becomes this one
      abbrev Tried : ℕ → Type 0
      Tried after = (w : View O) × (a : Act (Option (Kept T))) × table.Valid s.homes me.1 a × Rule (stepped s 0 after id me.1 w a)
          × steps.TakesLock opens legal stands (step slots 0 word 1 none) me n (w, table.carried_after me.1 a)

      abbrev is_named : IsNamed v.stage
      is_named = subst IsNamed (sym is) tt

      abbrev free : IsFree v.stage
      free = subst IsFree (sym is) tt

      abbrev k : SeatStands legal opening r.history r.names r.lock r.owner r.holder id v
      k = knows s r at is_named

      found : n ≡ r.lock
      found = ap (λ ws. get_or ws 0 0) r.words_are

      takes_out : n ≡ word → (slot : maybe.Option (Option (Kept T))) → s.homes ≡ slot ∷ [] → SlotStands opens legal stands opening r.history r.lock r.holder s.views slot → Tried 1
      takes_out now maybe.Option.none homes lies =
          let ku = r.each_seat r.holder lies.0 lies.1 (subst IsLive (sym lies.2) tt) in
          let su : StageStands legal opening r.history r.lock r.holder r.holder lies.0.seen Inside = subst (StageStands legal opening r.history r.lock r.holder r.holder lies.0.seen) lies.2 ku.staged in
          absurd (untaken (sym now ∙ (found ∙ su.0)))
      takes_out now (maybe.Option.some None) homes lies = absurd lies
      takes_out now (maybe.Option.some (Some x)) homes lies =
          let h : List Entry = r.history in let w : View O = inside v h in let limit = r.units_left in let begun = r.begun in let pages_are = own_stands s r at is_named in
          let lawful : legal opening h = subst (λ o. legal o h) lies.2 (law x.value h lies.1) in let was : units v ≡ v.left = named_units v.stage v.left is_named in let one = total_one units s.views id v at in
          let mine : SeatStands legal opening h r.names 1 r.owner id id w = record {
            opened = k.opened;
            seen = same_start h;
            also = k.also;
            lawful = lawful;
            sharing = k.sharing;
            paged = all_weaker (PageStands legal opening h r.names r.owner id v.seen) (PageStands legal opening h r.names r.owner id h) (own v ∷ v.ended)
                (λ p q. record { given = q.given; owned = q.owned; whole = q.whole; shown = q.whole }) pages_are;
            apart = own_apart legal opening h r.names r.lock r.owner r.holder id v is_named k;
            counted = k.counted;
            below = own_below legal opening h r.names r.lock r.owner r.holder id v is_named k;
            staged = (refl, refl, refl);
          } in
          let told_of : IsTaken opens legal stands me (w, (0, Some x) ∷ me.1) = record {
            kept = x;
            history = h;
            next_is = refl;
            stood = lies.1;
            opened = k.opened ∙ ap (λ (o : O). Some o) (sym lies.2);
            begins = k.seen;
            turns = lies.3;
            short = omega arith;
            facts = told legal opening h r.names 1 r.owner id id w tt mine (fits_in s r at (named_live v.stage is_named));
          } in (
            w,
            takes 0 (Some x),
            ap (λ hs. get_elem? hs 0) homes,
            moved opens legal stands opening s r id v w h 1 r.names r.owner id at (set s.words 0 1) (set s.homes 0 none) none tt
                (ap (λ ws. set ws 0 1) r.words_are) (ap (λ hs. set hs 0 none) homes) r.begun (w, set_here s.views id w (has_place s.views id v at), refl) r.theirs mine
                (λ j d other q. waits legal opening h r.names r.lock 1 r.owner r.holder id j d (λ taken. absurd (untaken (sym now ∙ (found ∙ taken)))) q)
                (inl refl) (λ i l. inl (l, refl)) (pages_kept s r at is_named w tt refl) (ap (λ z. length h + (r.names + z)) (sym was)) (share_kept s r at is_named w tt refl),
            record { taken = λ _. told_of; missed = λ ne. absurd (ne now) },
          )

      misses : n ≢ word → Tried n
      misses other = (
        v,
        keeps,
        tt,
        moved opens legal stands opening s r id v v r.history r.lock r.names r.owner r.holder at (set s.words 0 n) s.homes r.slot (named_live v.stage is_named)
            (set-get_or s.words 0 0 ∙ r.words_are) r.slot_is r.begun (lies_still opens legal stands opening r.history r.lock r.holder s.views id v v r.slot at free r.lies) r.theirs k (λ j d other q. q)
            (inr (refl, λ e. e)) (λ i l. inl (l, refl)) (λ i c. c) refl refl,
        record { taken = λ e. absurd (other e); missed = λ _. refl },
      )

      pub tried : Tried (either (eqb n word) 1 n)
      tried = exchanged n word 1 Tried (λ e. takes_out e r.slot r.slot_is r.lies) misses

    pub tries : ((y : T) (h : List Entry) → stands y h → legal (opens y) h) → (word : ℕ) → word ≢ 1 → v.stage ≡ Idle → 1 ≤ v.left
        → Allows Rule slots id me 0 (λ n. either (eqb n word) 1 n) (steps.TakesLock opens legal stands (step slots 0 word 1 none) me)
    tries law word untaken is more s r deep at fits = tried law word untaken is more s r at

  -- a give, right after the changed value went into the slot in hand
  pub hands_back : (slots id : ℕ) (old me : Sat T O) (x : Kept T) (e : Entry) (word : ℕ) → me ≡ (old.0, (0, Some x) ∷ table.rest old.1) → (old.0.stage ≡ Inside) × (1 ≤ old.0.left) → word ≢ 1 → old.1 ≡ (0, None) ∷ []
      → e.caller ≡ old.0.number → stands x.value (old.0.seen ++ e ∷ []) × (old.0.opened ≡ Some (opens x.value)) → x.turns ≡ length old.0.seen + 1 → ((y : T) (h : List Entry) → stands y h → legal (opens y) h)
      → Allows Rule slots id me 0 (λ _. word) (λ _. steps.HandsOn legal e (step slots 0 word 0 none) me word)
  hands_back slots id old me x e word now is untaken carried by stood turns law = let z : Sat T O = (old.0, (0, Some x) ∷ table.rest old.1) in
      subst (λ (m : Sat T O). Allows Rule slots id m 0 (λ _. word) (λ _. steps.HandsOn legal e (step slots 0 word 0 none) m word)) (sym now)
      (hands_on slots id z x e word is.0 is.1 untaken (ap (λ cs. (0, Some x) ∷ table.rest cs) carried) by stood.0 stood.1 turns law)

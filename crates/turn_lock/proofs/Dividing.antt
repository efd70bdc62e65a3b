-- Split and join keep the rule; so does the table at its start; and what a seat with all shares sees at the end.
use Rattle.turn_lock.proofs.Names.{◌≡◌, ℕ, ◌+◌, ◌-◌, ◌/◌, ◌<◌, ◌≤◌, ◌≢◌, ◌⊎◌, Bool, cond, eqb, List, [], ◌∷◌, ◌++◌, length, set, sym, refl, ap, ◌∙◌, subst, inl, inr, ⊎_elim, arith, rules, Option, Some, None, dite, some, none, some-injective, some-ne-none, ℕ_discrete, get_elem?, AllByRecursion, Contains, IsDistinct, State, Splits, Joins, at_set, set_here, set_else, at_snoc, at_longer, Entry, StartsWith, longer, Page, Kept, View, Spent, Unnamed, Idle, Inside, IsLive, IsNamed, units_at, units, shares, own, pages, numbers, total, shorter, first_view, kept_half, given_half, joined, spent_view, PageStands, StageStands, SeatStands, SlotStands, LockRule}
use mathlib.Core.Option as maybe
use Rattle.std.proofs.lemmas.List.Elements.{Contains-append_left, Contains-append_right}
use Rattle.atomic_table.specs.Table as table
use Rattle.turn_lock.specs.declared.seats.Stage.{Stage}
use Rattle.turn_lock.proofs.Entries.{same_start, starts_empty, nested, sandwiched, start_fits, full_start, longer_cases}
use Rattle.turn_lock.proofs.Pages.{all_weaker, all_append, all_numbers, numbers-append, distinct_append, distinct_none, distinct_one, among_none}
use Rattle.turn_lock.proofs.Totals.{has_place, total_set, total_push, total_two}
use Rattle.turn_lock.proofs.Knowing.{IsFree, IsInside, named_live, named_pages, named_units, live_shares, own_pages, own_apart, own_below, stays}
use Rattle.turn_lock.proofs.Moving.{lies_still}

-- a function of numbers, where one value is put for another
abbrev moved_to : (ℕ → ℕ) → ℕ → ℕ → ℕ → ℕ
moved_to f other id n = cond (eqb (f n) other) id (f n)

moved_here : (f : ℕ → ℕ) (other id n : ℕ) → f n ≡ other → moved_to f other id n ≡ id
moved_here f other id n e = ap (λ (b : Bool). cond b id (f n)) (Rattle.std.proofs.Common.eq-eqb (f n) other e)

moved_else : (f : ℕ → ℕ) (other id n : ℕ) → f n ≢ other → moved_to f other id n ≡ f n
moved_else f other id n e = ap (λ (b : Bool). cond b id (f n)) (Rattle.std.proofs.Common.ne_eqb (f n) other e)

live_pages : (st : Stage) (own : Page) (ended : List Page) (n : ℕ) → Contains (numbers (Rattle.turn_lock.specs.inside.Seats.pages_at st own ended)) n → IsLive st
live_pages Spent own ended n c = among_none n c
live_pages Unnamed own ended n c = tt
live_pages Idle own ended n c = tt
live_pages Inside own ended n c = tt

module _ {T O : Type 0} (opens : T → O) (legal : O → List Entry → Type 0) (stands : T → List Entry → Type 0) (opening : O) where
  abbrev Rule : State (Option (Kept T)) (View O) → Type 0
  Rule = LockRule opens legal stands opening

  lies_longer : (h : List Entry) (lock holder : ℕ) (vs : List (View O)) (w : View O) (slot : maybe.Option (Option (Kept T))) → SlotStands opens legal stands opening h lock holder vs slot
      → SlotStands opens legal stands opening h lock holder (vs ++ w ∷ []) slot
  lies_longer h lock holder vs w maybe.Option.none l = (l.0, at_longer vs (w ∷ []) holder l.0 l.1, l.2)
  lies_longer h lock holder vs w (maybe.Option.some None) l = l
  lies_longer h lock holder vs w (maybe.Option.some (Some x)) l = l

  pub splits : (id : ℕ) (v : View O) → v.stage ≡ Idle → 1 ≤ v.left → 2 ≤ v.shares → Splits Rule id v (kept_half v) (given_half v)
  splits id v is more two s r at =
      let w : View O = kept_half v in let g : View O = given_half v in let vs₁ : List (View O) = set s.views id w in let vs₂ : List (View O) = vs₁ ++ g ∷ [] in
      let is_named : IsNamed v.stage = subst IsNamed (sym is) tt in let live : IsLive v.stage = named_live v.stage is_named in let free : IsFree v.stage = subst IsFree (sym is) tt in
      let k = r.each_seat id v at live in let h : List Entry = r.history in let here = set_here s.views id w (has_place s.views id v at) in
      let kept : SeatStands legal opening h r.names r.lock r.owner r.holder id w = record {
        opened = k.opened;
        seen = k.seen;
        also = k.also;
        lawful = k.lawful;
        sharing = omega arith;
        paged = k.paged;
        apart = k.apart;
        counted = k.counted;
        below = k.below;
        staged = k.staged;
      } in
      let given : (j : ℕ) → SeatStands legal opening h r.names r.lock r.owner r.holder j g = λ j. record {
        opened = k.opened;
        seen = k.seen;
        also = starts_empty h;
        lawful = k.lawful;
        sharing = omega arith;
        paged = tt;
        apart = distinct_none;
        counted = k.counted;
        below = tt;
        staged = tt;
      } in
      let is_v : (j : ℕ) (u : View O) → j ≡ id → get_elem? s.views j ≡ some u → u ≡ v = λ j u e f. some-injective u v (sym f ∙ (ap (get_elem? s.views) e ∙ at)) in
      let u₀ : units v ≡ v.left = named_units v.stage v.left is_named in let u₁ : units w ≡ w.left = named_units v.stage w.left is_named in
      let s₀ : shares v ≡ v.shares = live_shares v.stage v.shares live in let s₁ : shares w ≡ w.shares = live_shares v.stage w.shares live in
      record {
        history = h;
        lock = r.lock;
        names = r.names;
        owner = r.owner;
        holder = r.holder;
        slot = r.slot;
        words_are = r.words_are;
        slot_is = r.slot_is;
        begun = r.begun;
        lies = lies_longer h r.lock r.holder vs₁ g r.slot (lies_still opens legal stands opening h r.lock r.holder s.views id v w r.slot at free r.lies);
        theirs = r.theirs;
        each_seat = λ j d e l. ⊎_elim
            (λ (e₁ : get_elem? vs₁ j ≡ some d). ⊎_elim (λ (q : (j ≡ id) × (w ≡ d)). subst (λ (z : ℕ × View O). SeatStands legal opening h r.names r.lock r.owner r.holder z.0 z.1) (λ i. (sym q.0 i, q.1 i)) kept)
            (λ (q : (j ≢ id) × (get_elem? s.views j ≡ some d)). r.each_seat j d q.1 l) (at_set s.views id j w d e₁))
            (λ (e₂ : g ≡ d). subst (λ (z : View O). SeatStands legal opening h r.names r.lock r.owner r.holder j z) e₂ (given j)) (at_snoc vs₁ g d j e);
        one_saw_all = let o = r.one_saw_all in dite (ℕ_discrete o.0 id)
            (λ e. let z : (seat : ℕ) × (u : View O) × (get_elem? vs₂ seat ≡ some u) × IsLive u.stage × (u.seen ≡ h) =
            (id, w, at_longer vs₁ (g ∷ []) id w here, live, ap (λ (y : View O). y.seen) (sym (is_v o.0 o.1 e o.2)) ∙ o.4) in z)
            (λ ne. let z : (seat : ℕ) × (u : View O) × (get_elem? vs₂ seat ≡ some u) × IsLive u.stage × (u.seen ≡ h) =
            (o.0, o.1, at_longer vs₁ (g ∷ []) o.0 o.1 (set_else s.views id o.0 w ne ∙ o.2), o.3, o.4) in z);
        each_name = λ n l. let o = r.each_name n l in dite (ℕ_discrete (r.owner n) id)
            (λ e. let z : (u : View O) × (get_elem? vs₂ (r.owner n) ≡ some u) × Contains (numbers (pages u)) n =
            (w, ap (get_elem? vs₂) e ∙ at_longer vs₁ (g ∷ []) id w here, subst (λ (y : View O). Contains (numbers (pages y)) n) (is_v (r.owner n) o.0 e o.1) o.2) in z)
            (λ ne. let z : (u : View O) × (get_elem? vs₂ (r.owner n) ≡ some u) × Contains (numbers (pages u)) n =
            (o.0, at_longer vs₁ (g ∷ []) (r.owner n) o.0 (set_else s.views id (r.owner n) w ne ∙ o.1), o.2) in z);
        units_left = let sum = total_set units s.views id v w at in let push = total_push units vs₁ g in let was = r.units_left in omega arith;
        shares_out = let sum = total_set shares s.views id v w at in let push = total_push shares vs₁ g in let was = r.shares_out in omega arith;
      }

  -- what the longer of two beginnings is
  pub record Longest (P : List Entry → Type 0) (h xs ys l m : List Entry) : Type 0 where
    pub whole : StartsWith h l
    pub other : StartsWith h m
    pub lawful : P xs → P ys → P l
    pub first : StartsWith l xs
    pub second : StartsWith l ys
    pub all_first : xs ≡ h → l ≡ h
    pub all_second : ys ≡ h → l ≡ h

  longest : (P : List Entry → Type 0) (h xs ys : List Entry) → StartsWith h xs → StartsWith h ys → Longest P h xs ys (longer xs ys) (shorter xs ys)
  longest P h xs ys a b = longer_cases xs ys (Longest P h xs ys)
      (λ less. record {
        whole = b;
        other = a;
        lawful = λ p q. q;
        first = nested h ys xs b a (omega arith);
        second = same_start ys;
        all_first = λ e. absurd (let f = start_fits h ys b in let g : length xs ≡ length h = ap length e in omega arith);
        all_second = λ e. e;
      })
      (λ more. record {
        whole = a;
        other = b;
        lawful = λ p q. p;
        first = same_start xs;
        second = nested h xs ys a b more;
        all_first = λ e. e;
        all_second = λ e. full_start h xs a (let g : length ys ≡ length h = ap length e in omega arith);
      })

  pub joins : (id : ℕ) (v : View O) (other : ℕ) (w : View O) → v.stage ≡ Idle → w.stage ≡ Idle → Joins Rule id v other w (joined v w) spent_view
  joins id v other w is isw s r at ne at' =
      let h : List Entry = r.history in let j : View O = joined v w in let vs₁ : List (View O) = set s.views id j in let vs₂ : List (View O) = set vs₁ other spent_view in
      let at_w : get_elem? s.views other ≡ some w = sym (set_else s.views id other j ne) ∙ at' in
      let named_v : IsNamed v.stage = subst IsNamed (sym is) tt in let named_w : IsNamed w.stage = subst IsNamed (sym isw) tt in
      let live_v = named_live v.stage named_v in let live_w = named_live w.stage named_w in let free_v : IsFree v.stage = subst IsFree (sym is) tt in let free_w : IsFree w.stage = subst IsFree (sym isw) tt in
      let kv = r.each_seat id v at live_v in let kw = r.each_seat other w at_w live_w in let pv = own_pages legal opening h r.names r.lock r.owner r.holder id v named_v kv in let pw = own_pages legal opening h r.names r.lock r.owner r.holder other w named_w kw in
      let owner' : ℕ → ℕ = moved_to r.owner other id in let best = longest (legal opening) h v.seen w.seen kv.seen kw.seen in
      let here₁ : get_elem? vs₁ id ≡ some j = set_here s.views id j (has_place s.views id v at) in
      let here : get_elem? vs₂ id ≡ some j = set_else vs₁ other id spent_view (λ e. ne (sym e)) ∙ here₁ in
      let is_v : (i : ℕ) (u : View O) → i ≡ id → get_elem? s.views i ≡ some u → u ≡ v = λ i u e f. some-injective u v (sym f ∙ (ap (get_elem? s.views) e ∙ at)) in
      let is_w : (i : ℕ) (u : View O) → i ≡ other → get_elem? s.views i ≡ some u → u ≡ w = λ i u e f. some-injective u w (sym f ∙ (ap (get_elem? s.views) e ∙ at_w)) in
      let elsewhere : (i : ℕ) (u : View O) → i ≢ id → i ≢ other → get_elem? s.views i ≡ some u → get_elem? vs₂ i ≡ some u = λ i u a b f. set_else vs₁ other i spent_view b ∙ (set_else s.views id i j a ∙ f) in
      let pages_v : pages v ≡ own v ∷ v.ended = named_pages v.stage (own v) v.ended named_v in let pages_w : pages w ≡ own w ∷ w.ended = named_pages w.stage (own w) w.ended named_w in
      let pages_j : pages j ≡ (own v ∷ v.ended) ++ own w ∷ w.ended = named_pages j.stage (own j) j.ended named_v in
      let ns : List ℕ = numbers (own v ∷ v.ended) in let ms : List ℕ = numbers (own w ∷ w.ended) in
      let numbers_j : numbers (pages j) ≡ ns ++ ms = ap numbers pages_j ∙ numbers-append (own v ∷ v.ended) (own w ∷ w.ended) in
      let theirs : AllByRecursion (λ n. r.owner n ≡ id) ns = all_numbers (λ n. r.owner n ≡ id) (own v ∷ v.ended) (all_weaker (PageStands legal opening h r.names r.owner id v.seen) (λ p. r.owner p.0 ≡ id) (own v ∷ v.ended) (λ p q. q.owned) pv) in
      let others : AllByRecursion (λ n. r.owner n ≡ other) ms = all_numbers (λ n. r.owner n ≡ other) (own w ∷ w.ended) (all_weaker (PageStands legal opening h r.names r.owner other w.seen) (λ p. r.owner p.0 ≡ other) (own w ∷ w.ended) (λ p q. q.owned) pw) in
      let apart_j : IsDistinct eqb (ns ++ ms) = distinct_append ns ms (own_apart legal opening h r.names r.lock r.owner r.holder id v named_v kv) (own_apart legal opening h r.names r.lock r.owner r.holder other w named_w kw)
      (all_weaker (λ n. r.owner n ≡ id) (λ n. AllByRecursion (λ m. n ≢ m) ms) ns (λ n e. all_weaker (λ m. r.owner m ≡ other) (λ m. n ≢ m) ms (λ m f g. ne (sym f ∙ (ap r.owner (sym g) ∙ e))) others) theirs) in
      let joined_stands : SeatStands legal opening h r.names r.lock owner' r.holder id j = record {
        opened = kv.opened;
        seen = best.whole;
        also = best.other;
        lawful = best.lawful kv.lawful kw.lawful;
        sharing = let a = kv.sharing in omega arith;
        paged = subst (AllByRecursion (PageStands legal opening h r.names owner' id j.seen)) (sym pages_j) (all_append (PageStands legal opening h r.names owner' id j.seen) (own v ∷ v.ended) (own w ∷ w.ended)
            (all_weaker (PageStands legal opening h r.names r.owner id v.seen) (PageStands legal opening h r.names owner' id j.seen) (own v ∷ v.ended)
            (λ p q. record { given = q.given; owned = moved_else r.owner other id p.0 (λ e. ne (sym e ∙ q.owned)) ∙ q.owned; whole = q.whole; shown = sandwiched h j.seen v.seen p.1 p.0 best.whole best.first q.whole q.shown }) pv)
            (all_weaker (PageStands legal opening h r.names r.owner other w.seen) (PageStands legal opening h r.names owner' id j.seen) (own w ∷ w.ended)
            (λ p q. record { given = q.given; owned = moved_here r.owner other id p.0 q.owned; whole = q.whole; shown = sandwiched h j.seen w.seen p.1 p.0 best.whole best.second q.whole q.shown }) pw));
        apart = subst (IsDistinct eqb) (sym numbers_j) apart_j;
        counted = (let a = kv.counted in let b = kw.counted in grind arith);
        below = subst (AllByRecursion (λ (p : Page). p.0 < j.names)) (sym pages_j) (all_append (λ (p : Page). p.0 < j.names) (own v ∷ v.ended) (own w ∷ w.ended)
            (all_weaker (λ (p : Page). p.0 < v.names) (λ (p : Page). p.0 < j.names) (own v ∷ v.ended) (λ p l. grind arith) (own_below legal opening h r.names r.lock r.owner r.holder id v named_v kv))
            (all_weaker (λ (p : Page). p.0 < w.names) (λ (p : Page). p.0 < j.names) (own w ∷ w.ended) (λ p l. grind arith) (own_below legal opening h r.names r.lock r.owner r.holder other w named_w kw)));
        staged = subst (StageStands legal opening h r.lock r.holder id j.seen) (sym is) tt;
      } in
      let u₀ : units v ≡ v.left = named_units v.stage v.left named_v in let u₁ : units j ≡ v.left + w.left = named_units v.stage (v.left + w.left) named_v in let u₂ : units w ≡ w.left = named_units w.stage w.left named_w in
      let s₀ : shares v ≡ v.shares = live_shares v.stage v.shares live_v in let s₁ : shares j ≡ v.shares + w.shares = live_shares v.stage (v.shares + w.shares) live_v in let s₂ : shares w ≡ w.shares = live_shares w.stage w.shares live_w in
      record {
        history = h;
        lock = r.lock;
        names = r.names;
        owner = owner';
        holder = r.holder;
        slot = r.slot;
        words_are = r.words_are;
        slot_is = r.slot_is;
        begun = r.begun;
        lies = lies_still opens legal stands opening h r.lock r.holder vs₁ other w spent_view r.slot at' free_w (lies_still opens legal stands opening h r.lock r.holder s.views id v j r.slot at free_v r.lies);
        theirs = r.theirs;
        each_seat = λ i d e l. ⊎_elim
            (λ (q : (i ≡ other) × (spent_view ≡ d)). absurd (subst (λ (z : View O). IsLive z.stage) (sym q.1) l))
            (λ (q : (i ≢ other) × (get_elem? vs₁ i ≡ some d)). ⊎_elim
            (λ (p : (i ≡ id) × (j ≡ d)). subst (λ (z : ℕ × View O). SeatStands legal opening h r.names r.lock owner' r.holder z.0 z.1) (λ x. (sym p.0 x, p.1 x)) joined_stands)
            (λ (p : (i ≢ id) × (get_elem? s.views i ≡ some d)). stays legal opening h r.names r.names r.lock r.owner owner' r.holder i d (omega arith)
            (λ n lt o. moved_else r.owner other id n (λ f. q.0 (sym o ∙ f)) ∙ o) (r.each_seat i d p.1 l))
            (at_set s.views id i j d q.1)) (at_set vs₁ other i spent_view d e);
        one_saw_all = let o = r.one_saw_all in dite (ℕ_discrete o.0 id)
            (λ e. let z : (seat : ℕ) × (u : View O) × (get_elem? vs₂ seat ≡ some u) × IsLive u.stage × (u.seen ≡ h) =
            (id, j, here, live_v, best.all_first (ap (λ (y : View O). y.seen) (sym (is_v o.0 o.1 e o.2)) ∙ o.4)) in z)
            (λ a. dite (ℕ_discrete o.0 other)
            (λ e. let z : (seat : ℕ) × (u : View O) × (get_elem? vs₂ seat ≡ some u) × IsLive u.stage × (u.seen ≡ h) =
            (id, j, here, live_v, best.all_second (ap (λ (y : View O). y.seen) (sym (is_w o.0 o.1 e o.2)) ∙ o.4)) in z)
            (λ b. let z : (seat : ℕ) × (u : View O) × (get_elem? vs₂ seat ≡ some u) × IsLive u.stage × (u.seen ≡ h) =
            (o.0, o.1, elsewhere o.0 o.1 a b o.2, o.3, o.4) in z));
        each_name = λ n l. let o = r.each_name n l in dite (ℕ_discrete (r.owner n) other)
            (λ e. let z : (u : View O) × (get_elem? vs₂ (owner' n) ≡ some u) × Contains (numbers (pages u)) n =
            (j, ap (get_elem? vs₂) (moved_here r.owner other id n e) ∙ here, subst (λ l. Contains l n) (sym numbers_j) (Contains-append_right ns ms n (subst (λ (ps : List Page). Contains (numbers ps) n) (ap pages (is_w (r.owner n) o.0 e o.1) ∙ pages_w) o.2))) in z)
            (λ b. let same = moved_else r.owner other id n b in dite (ℕ_discrete (r.owner n) id)
            (λ e. let z : (u : View O) × (get_elem? vs₂ (owner' n) ≡ some u) × Contains (numbers (pages u)) n =
            (j, ap (get_elem? vs₂) (same ∙ e) ∙ here, subst (λ l. Contains l n) (sym numbers_j) (Contains-append_left ns ms n (subst (λ (ps : List Page). Contains (numbers ps) n) (ap pages (is_v (r.owner n) o.0 e o.1) ∙ pages_v) o.2))) in z)
            (λ a. let z : (u : View O) × (get_elem? vs₂ (owner' n) ≡ some u) × Contains (numbers (pages u)) n =
            (o.0, ap (get_elem? vs₂) same ∙ elsewhere (r.owner n) o.0 a b o.1, o.2) in z));
        units_left = let one = total_set units s.views id v j at in let two = total_set units vs₁ other w spent_view at' in let was = r.units_left in omega arith;
        shares_out = let one = total_set shares s.views id v j at in let two = total_set shares vs₁ other w spent_view at' in let was = r.shares_out in omega arith;
      }

  -- the table at its start, with one seat
  pub starts : ((y : T) (h : List Entry) → stands y h → legal (opens y) h) → (x : Kept T) → opens x.value ≡ opening → stands x.value [] → x.turns ≡ 0 → Rule (table.opening (0 ∷ 1 ∷ []) (Some x ∷ []) (first_view opening))
  starts law x is stood none_yet = record {
    history = [];
    lock = 0;
    names = 1;
    owner = λ _. 0;
    holder = 0;
    slot = some (Some x);
    words_are = refl;
    slot_is = refl;
    begun = omega arith;
    lies = ((λ e. omega arith), stood, is, none_yet);
    theirs = tt;
    each_seat = λ j d e l. ⊎_elim (λ (q : (j ≡ 0) × (first_view opening ≡ d)). subst (λ (z : ℕ × View O). SeatStands legal opening [] 1 0 (λ _. 0) 0 z.0 z.1) (λ i. (sym q.0 i, q.1 i)) first)
        (λ (q : (j ≢ 0) × (get_elem? (first_view opening ∷ []) j ≡ some d)). absurd (beyond j d q.0 q.1)) (at_set (first_view opening ∷ []) 0 j (first_view opening) d e);
    one_saw_all = (0, first_view opening, refl, tt, refl);
    each_name = λ n l. (first_view opening, refl, (0, omega arith, (let z : 0 ≡ n = omega arith in z)));
    units_left = omega arith;
    shares_out = omega arith;
  }
    where
      beyond : (j : ℕ) (d : View O) → j ≢ 0 → get_elem? (first_view opening ∷ []) j ≡ some d → ⊥
      beyond Rattle.std.proofs.Common.zero d other e = other refl
      beyond (Rattle.std.proofs.Common.suc j) d other e = some-ne-none d (sym e)

      first : SeatStands legal opening [] 1 0 (λ _. 0) 0 0 (first_view opening)
      first = record {
        opened = refl;
        seen = starts_empty [];
        also = starts_empty [];
        lawful = subst (λ o. legal o []) is (law x.value [] stood);
        sharing = omega arith;
        paged = (record { given = omega arith; owned = refl; whole = refl; shown = refl }, tt);
        apart = distinct_one 0;
        counted = omega arith;
        below = (omega arith, tt);
        staged = tt;
      }

  -- what a seat with all shares sees at the end
  pub record Closes (s : State (Option (Kept T)) (View O)) (v : View O) : Type 0 where
    pub kept : Kept T
    pub home : get_elem? s.homes 0 ≡ some (some (Some kept))
    pub stood : stands kept.value v.seen
    pub opened : v.opened ≡ Some (opens kept.value)
    pub known : AllByRecursion (λ e. Contains (numbers (own v ∷ v.ended)) e.caller) v.seen

  pub closes : (id : ℕ) (v : View O) → v.stage ≡ Idle → v.shares ≡ 4294967296 → (s : State (Option (Kept T)) (View O)) → Rule s → get_elem? s.views id ≡ some v → Closes s v
  closes id v is all s r at = ends r.slot r.slot_is r.lies
    where
      h : List Entry
      h = r.history

      named_v : IsNamed v.stage
      named_v = subst IsNamed (sym is) tt

      alone : (j : ℕ) (u : View O) → get_elem? s.views j ≡ some u → IsLive u.stage → j ≡ id
      alone j u e l = dite (ℕ_discrete j id) (λ z. z) (λ ne. absurd (let two = total_two shares s.views j id u v ne e at in let k = r.each_seat j u e l in let some_of = k.sharing in let su : shares u ≡ u.shares = live_shares u.stage u.shares l in
          let sv : shares v ≡ v.shares = live_shares v.stage v.shares (named_live v.stage named_v) in let sum = r.shares_out in omega arith))

      is_v : (j : ℕ) (u : View O) → j ≡ id → get_elem? s.views j ≡ some u → u ≡ v
      is_v j u e f = some-injective u v (sym f ∙ (ap (get_elem? s.views) e ∙ at))

      k : SeatStands legal opening h r.names r.lock r.owner r.holder id v
      k = r.each_seat id v at (named_live v.stage named_v)

      saw : v.seen ≡ h
      saw = let o = r.one_saw_all in ap (λ (y : View O). y.seen) (sym (is_v o.0 o.1 (alone o.0 o.1 o.2 o.3) o.2)) ∙ o.4

      among : (n : ℕ) → n < r.names → Contains (numbers (own v ∷ v.ended)) n
      among n l = let o = r.each_name n l in let j : r.owner n ≡ id = alone (r.owner n) o.0 o.1 (live_pages o.0.stage (own o.0) o.0.ended n o.2) in
          subst (λ (ps : List Page). Contains (numbers ps) n) (ap pages (is_v (r.owner n) o.0 j o.1) ∙ named_pages v.stage (own v) v.ended named_v) o.2

      ends : (slot : maybe.Option (Option (Kept T))) → s.homes ≡ slot ∷ [] → SlotStands opens legal stands opening h r.lock r.holder s.views slot → Closes s v
      ends maybe.Option.none homes lies = absurd (let j : r.holder ≡ id = alone r.holder lies.0 lies.1 (subst IsLive (sym lies.2) tt) in
          subst IsInside (ap (λ (z : View O). z.stage) (is_v r.holder lies.0 j lies.1) ∙ is) (subst IsInside (sym lies.2) tt))
      ends (maybe.Option.some None) homes lies = absurd lies
      ends (maybe.Option.some (Some x)) homes lies = record {
        kept = x;
        home = ap (λ hs. get_elem? hs 0) homes;
        stood = subst (stands x.value) (sym saw) lies.1;
        opened = k.opened ∙ ap (λ (o : O). Some o) (sym lies.2);
        known = subst (AllByRecursion (λ e. Contains (numbers (own v ∷ v.ended)) e.caller)) (sym saw)
            (all_weaker (λ e. e.caller < r.names) (λ e. Contains (numbers (own v ∷ v.ended)) e.caller) h (λ e l. among e.caller l) r.theirs);
      }

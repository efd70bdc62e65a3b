-- A step of one seat keeps the rule, where it keeps what the others know.
use Rattle.turn_lock.proofs.Names.{◌≡◌, ℕ, ◌+◌, ◌<◌, ◌≤◌, ◌≢◌, ◌⊎◌, List, [], ◌∷◌, length, set, sym, ap, ◌∙◌, subst, ⊎_elim, arith, Option, Some, None, dite, some, some-injective, some-ne-none, ℕ_discrete, get_elem?, AllByRecursion, Contains, State, at_set, set_here, set_else, Entry, Kept, View, IsLive, units, shares, pages, numbers, SeatStands, SlotStands, LockRule}
use mathlib.Core.Option as maybe
use Rattle.turn_lock.proofs.Totals.{has_place, total_set}
use Rattle.turn_lock.proofs.Knowing.{IsFree, free_outside}

module _ {T O : Type 0} (opens : T → O) (legal : O → List Entry → Type 0) (stands : T → List Entry → Type 0) (opening : O) where
  abbrev Rule : State (Option (Kept T)) (View O) → Type 0
  Rule = LockRule opens legal stands opening

  -- the slot stays as it is while a seat outside steps
  pub lies_still : (h : List Entry) (lock holder : ℕ) (vs : List (View O)) (id : ℕ) (v w : View O) (slot : maybe.Option (Option (Kept T))) → get_elem? vs id ≡ some v → IsFree v.stage
      → SlotStands opens legal stands opening h lock holder vs slot → SlotStands opens legal stands opening h lock holder (set vs id w) slot
  lies_still h lock holder vs id v w maybe.Option.none at free l =
      let other : holder ≢ id = λ e. free_outside v.stage free (ap (λ (z : View O). z.stage) (some-injective v l.0 (sym at ∙ (ap (get_elem? vs) (sym e) ∙ l.1))) ∙ l.2) in
      (l.0, set_else vs id holder w other ∙ l.1, l.2)
  lies_still h lock holder vs id v w (maybe.Option.some None) at free l = l
  lies_still h lock holder vs id v w (maybe.Option.some (Some x)) at free l = l

  module _ (s : State (Option (Kept T)) (View O)) (r : Rule s) (id : ℕ) (v w : View O) (h' : List Entry) (lock' m' : ℕ) (owner' : ℕ → ℕ) (holder' : ℕ) (at : get_elem? s.views id ≡ some v) where
    abbrev vs' : List (View O)
    vs' = set s.views id w

    here : get_elem? vs' id ≡ some w
    here = set_here s.views id w (has_place s.views id v at)

    is_v : (j : ℕ) (u : View O) → j ≡ id → get_elem? s.views j ≡ some u → u ≡ v
    is_v j u e f = some-injective u v (sym f ∙ (ap (get_elem? s.views) e ∙ at))

    abbrev Name_here : ℕ → Type 0
    Name_here n = (u : View O) × (get_elem? vs' (owner' n) ≡ some u) × Contains (numbers (pages u)) n

    abbrev One_saw : Type 0
    One_saw = (seat : ℕ) × (u : View O) × (get_elem? vs' seat ≡ some u) × IsLive u.stage × (u.seen ≡ h')

    pub moved : (words' : List ℕ) (homes' : List (maybe.Option (Option (Kept T)))) (slot' : maybe.Option (Option (Kept T))) → IsLive w.stage
        → words' ≡ lock' ∷ m' ∷ [] → homes' ≡ slot' ∷ [] → 1 ≤ m' → SlotStands opens legal stands opening h' lock' holder' vs' slot' → AllByRecursion (λ e. e.caller < m') h'
        → SeatStands legal opening h' m' lock' owner' holder' id w
        → ((j : ℕ) (d : View O) → j ≢ id → SeatStands legal opening r.history r.names r.lock r.owner r.holder j d → SeatStands legal opening h' m' lock' owner' holder' j d)
        → (w.seen ≡ h') ⊎ ((h' ≡ r.history) × (v.seen ≡ h' → w.seen ≡ h'))
        → ((n : ℕ) → n < m' → ((n < r.names) × (owner' n ≡ r.owner n)) ⊎ ((owner' n ≡ id) × Contains (numbers (pages w)) n))
        → ((n : ℕ) → Contains (numbers (pages v)) n → Contains (numbers (pages w)) n)
        → length h' + (m' + units w) ≡ length r.history + (r.names + units v) → shares w ≡ shares v
        → Rule record { words = words'; homes = homes'; views = vs' }
    moved words' homes' slot' live words slot begun lies theirs mine others saw names kept_names allowance share = record {
      history = h';
      lock = lock';
      names = m';
      owner = owner';
      holder = holder';
      slot = slot';
      words_are = words;
      slot_is = slot;
      begun = begun;
      lies = lies;
      theirs = theirs;
      each_seat = λ j d e l. ⊎_elim (λ (q : (j ≡ id) × (w ≡ d)). subst (λ (z : ℕ × View O). SeatStands legal opening h' m' lock' owner' holder' z.0 z.1) (λ i. (sym q.0 i, q.1 i)) mine)
          (λ (q : (j ≢ id) × (get_elem? s.views j ≡ some d)). others j d q.0 (r.each_seat j d q.1 l)) (at_set s.views id j w d e);
      one_saw_all = ⊎_elim (λ (e : w.seen ≡ h'). let z : One_saw = (id, w, here, live, e) in z)
          (λ (q : (h' ≡ r.history) × (v.seen ≡ h' → w.seen ≡ h')). let o = r.one_saw_all in dite (ℕ_discrete o.0 id)
          (λ e. let z : One_saw = (id, w, here, live, q.1 (ap (λ (y : View O). y.seen) (sym (is_v o.0 o.1 e o.2)) ∙ (o.4 ∙ sym q.0))) in z)
          (λ ne. let z : One_saw = (o.0, o.1, set_else s.views id o.0 w ne ∙ o.2, o.3, o.4 ∙ sym q.0) in z)) saw;
      each_name = λ n l. ⊎_elim (λ (q : (n < r.names) × (owner' n ≡ r.owner n)). let o = r.each_name n q.0 in dite (ℕ_discrete (r.owner n) id)
          (λ e. let z : Name_here n = (w, ap (get_elem? vs') (q.1 ∙ e) ∙ here, kept_names n (subst (λ (y : View O). Contains (numbers (pages y)) n) (is_v (r.owner n) o.0 e o.1) o.2)) in z)
          (λ ne. let z : Name_here n = (o.0, ap (get_elem? vs') q.1 ∙ (set_else s.views id (r.owner n) w ne ∙ o.1), o.2) in z))
          (λ (q : (owner' n ≡ id) × Contains (numbers (pages w)) n). let z : Name_here n = (w, ap (get_elem? vs') q.0 ∙ here, q.1) in z) (names n l);
      units_left = let sum = total_set units s.views id v w at in let was = r.units_left in omega arith;
      shares_out = let sum = total_set shares s.views id v w at in let was = r.shares_out in omega arith;
    }

-- The keys that were set by a position, and their values there
use Rattle.office_state.proofs.Names.{◌≡◌, ℕ, zero, suc, ◌<◌, ◌≤◌, Bool, true, false, ◌||◌, nat_eq, List, [], ◌∷◌, ◌++◌, length, take, slice_get, get_or, Some, None, Option, is_some, Ok, Err, refl, sym, ap, ◌∙◌, subst, if◌then◌else◌, ◌⊎◌, inl, inr, append-nil, filter_map, arith, cons_option, list_any, cases_lt, eq-eqb, eqb-true, length_push, take-append-le, take_all, filter_map-append, slice_get-get_or, Command, Upgrade, Policy, Taken, id_of, next, issue_id, policy_of, IsAccepted, newest_of, or_else, value_at, Setting, keys_after, keys_of, own, until, with_key, keys_of-new, keys_of-old, until_all, until_past, sets_of}
use Rattle.policy_machine.proofs.AcceptedLemmas.{IsIssueHere, NeedsPolicy, issue_or_other}
use Rattle.office_state.specs.versions.Places.{BookAtLaw, IndexLaw, KeyCountLaw, KeysLaw, UntilLaw}
use Rattle.office_state.proofs.SetSteps.{by_accepted, by_each, setting_to, sets_of-accepted, sets_of-refused, sets_of-rise, sets_of-upgrade}
use Rattle.office_state.proofs.PolicyValues.{newest_of-sets_of, value_at-sets_of}
use Rattle.office_state.proofs.Fronts.{accepted-take, book_get, issued_front, length-book}

pub until-sets_of : UntilLaw
until-sets_of = by_each (λ commands. (p : ℕ) → until p (sets_of commands) ≡ sets_of (take p commands)) none
    (λ commands command policy e here p.
    at_each (sets_of commands ++ setting_to commands command policy ∷ []) commands command p
    (ap (until p) (sets_of-accepted commands command policy e))
    (λ within. until_past p (sets_of commands) (setting_to commands command policy) (omega (arith, within)))
    (here p))
    (λ commands command refusal e here p.
    at_each (sets_of commands) commands command p (ap (until p) (sets_of-refused commands command refusal e)) (λ within. refl) (here p))
  where
    none : (p : ℕ) → until p (sets_of []) ≡ sets_of (take p [])
    none zero = refl
    none (suc p) = refl

    at_each : (more : List (Setting Policy)) (commands : List Command) (command : Command) (p : ℕ) → until p (sets_of (commands ++ command ∷ [])) ≡ until p more
        → (p ≤ length commands → until p more ≡ until p (sets_of commands)) → until p (sets_of commands) ≡ sets_of (take p commands)
        → until p (sets_of (commands ++ command ∷ [])) ≡ sets_of (take p (commands ++ command ∷ []))
    at_each more commands command p is before here = by (cases_lt (length commands) p)
      where
        by : (length commands < p) ⊎ (p ≤ length commands) → until p (sets_of (commands ++ command ∷ [])) ≡ sets_of (take p (commands ++ command ∷ []))
        by (inl past) =
            let all : length (commands ++ command ∷ []) ≤ p = omega (arith, past, length_push commands command) in
            until_all p 0 (sets_of (commands ++ command ∷ [])) (length (commands ++ command ∷ [])) (sets_of-rise (commands ++ command ∷ [])) all
            ∙ sym (ap sets_of (take_all p (commands ++ command ∷ []) all))
        by (inr within) = is ∙ before within ∙ here ∙ sym (ap sets_of (take-append-le p commands (command ∷ []) within))

-- a key is among the keys exactly if it has a version
either : (a b c : Bool) → ((a || b) || c) ≡ (a || (b || c))
either true b c = refl
either false b c = refl

any-push : (key k : ℕ) (ks : List ℕ) → list_any (nat_eq key) (ks ++ k ∷ []) ≡ (list_any (nat_eq key) ks || nat_eq key k)
any-push key k [] = with_false (nat_eq key k)
  where
    with_false : (b : Bool) → (b || false) ≡ b
    with_false true = refl
    with_false false = refl
any-push key k (x ∷ ks) = ap (λ b. nat_eq key x || b) (any-push key k ks) ∙ sym (either (nat_eq key x) (list_any (nat_eq key) ks) (nat_eq key k))

any-with : (key k : ℕ) (ks : List ℕ) → list_any (nat_eq key) (with_key ks k) ≡ (list_any (nat_eq key) ks || nat_eq key k)
any-with key k ks = by (list_any (nat_eq k) ks) refl
  where
    among : list_any (nat_eq k) ks ≡ true → (b : Bool) → nat_eq key k ≡ b → list_any (nat_eq key) ks ≡ (list_any (nat_eq key) ks || b)
    among there true same = by_any (list_any (nat_eq key) ks) (subst (λ n. list_any (nat_eq n) ks ≡ true) (sym (eqb-true key k same)) there)
      where
        by_any : (a : Bool) → a ≡ true → a ≡ (a || true)
        by_any true is = refl
        by_any false isnt = grind arith
    among there false other = by_any (list_any (nat_eq key) ks)
      where
        by_any : (a : Bool) → a ≡ (a || false)
        by_any true = refl
        by_any false = refl

    by : (b : Bool) → list_any (nat_eq k) ks ≡ b → list_any (nat_eq key) (if b then ks else ks ++ k ∷ []) ≡ (list_any (nat_eq key) ks || nat_eq key k)
    by true there = among there (nat_eq key k) refl
    by false absent = any-push key k ks

some_or_else : {V : Type 0} (a : Option V) (v : V) → is_some (or_else a (Some v)) ≡ true
some_or_else None v = refl
some_or_else (Some w) v = refl

any-after : (key : ℕ) (ks : List ℕ) (sets : List (Setting Policy))
    → list_any (nat_eq key) (keys_after ks sets) ≡ (list_any (nat_eq key) ks || is_some (newest_of (own key sets)))
any-after key ks [] = by (list_any (nat_eq key) ks)
  where
    by : (a : Bool) → a ≡ (a || false)
    by true = refl
    by false = refl
any-after key ks (s ∷ sets) =
    any-after key (with_key ks s.key) sets
    ∙ ap (λ b. b || is_some (newest_of (own key sets))) (any-with key s.key ks)
    ∙ either (list_any (nat_eq key) ks) (nat_eq key s.key) (is_some (newest_of (own key sets)))
    ∙ ap (λ b. list_any (nat_eq key) ks || b) (by (nat_eq key s.key) (nat_eq s.key key) refl refl)
  where
    by : (b c : Bool) → nat_eq key s.key ≡ b → nat_eq s.key key ≡ c
        → (b || is_some (newest_of (own key sets))) ≡ is_some (newest_of (if c then (s.position, s.value) ∷ own key sets else own key sets))
    by true true e f = sym (some_or_else (newest_of (own key sets)) s.value)
    by false false e f = refl
    by true false e f = let yes : nat_eq s.key key ≡ true = eq-eqb s.key key (sym (eqb-true key s.key e)) in grind arith
    by false true e f = let yes : nat_eq key s.key ≡ true = eq-eqb key s.key (sym (eqb-true s.key key f)) in grind arith

-- so a number is among them exactly if it has a policy
key_known : (commands : List Command) (id : ℕ) → list_any (nat_eq id) (keys_of (sets_of commands)) ≡ is_some (policy_of commands id)
key_known commands id = any-after id [] (sets_of commands) ∙ ap is_some (newest_of-sets_of commands id)

-- a policy's first accepted command issues it, and no later one does
issued_by : (found : Option Policy) (command : Command) (policy : Policy) → next found command ≡ Ok policy
    → issue_id command ≡ (if is_some found then None else Some (id_of command))
issued_by found command policy e = by_kind found e (issue_or_other command)
  where
    by_kind : (found : Option Policy) → next found command ≡ Ok policy → IsIssueHere command ⊎ NeedsPolicy command
        → issue_id command ≡ (if is_some found then None else Some (id_of command))
    by_kind None made (inl c) = ap issue_id c.is ∙ ap Some (sym (ap id_of c.is))
    by_kind None made (inr other) = let refused = other.refused in absurd (cc)
    by_kind (Some p) made (inl c) = let refused : next (Some p) command ≡ Err Taken = ap (next (Some p)) c.is in absurd (cc)
    by_kind (Some p) made (inr other) = other.none

pub keys_of-sets_of : (commands : List Command) → IsAccepted commands → keys_of (sets_of commands) ≡ filter_map issue_id commands
keys_of-sets_of = by_accepted (λ commands. keys_of (sets_of commands) ≡ filter_map issue_id commands) refl
    (λ commands command policy accepted e here.
    ap keys_of (sets_of-accepted commands command policy e)
    ∙ more commands command policy e here (is_some (policy_of commands (id_of command))) refl
    ∙ sym (filter_map-append issue_id commands (command ∷ []) ∙ ap (λ o. filter_map issue_id commands ++ cons_option o []) (issued_by (policy_of commands (id_of command)) command policy e)))
    (λ commands accepted here.
    ap keys_of (sets_of-upgrade commands) ∙ here
    ∙ sym (filter_map-append issue_id commands (Upgrade ∷ []) ∙ append-nil (filter_map issue_id commands)))
  where
    more : (commands : List Command) (command : Command) (policy : Policy) → next (policy_of commands (id_of command)) command ≡ Ok policy
        → keys_of (sets_of commands) ≡ filter_map issue_id commands → (b : Bool) → is_some (policy_of commands (id_of command)) ≡ b
        → keys_of (sets_of commands ++ setting_to commands command policy ∷ [])
        ≡ filter_map issue_id commands ++ cons_option (if is_some (policy_of commands (id_of command)) then None else Some (id_of command)) []
    more commands command policy e here true known =
        keys_of-old (sets_of commands) (setting_to commands command policy) (key_known commands (id_of command) ∙ known)
        ∙ here ∙ sym (append-nil (filter_map issue_id commands))
        ∙ ap (λ b. filter_map issue_id commands ++ cons_option (if b then None else Some (id_of command)) []) (sym known)
    more commands command policy e here false unknown =
        keys_of-new (sets_of commands) (setting_to commands command policy) (key_known commands (id_of command) ∙ unknown)
        ∙ ap (λ ids. ids ++ id_of command ∷ []) here
        ∙ ap (λ b. filter_map issue_id commands ++ cons_option (if b then None else Some (id_of command)) []) (sym unknown)

pub keys_of-until : KeysLaw
keys_of-until commands p accepted =
    ap keys_of (until-sets_of commands p) ∙ keys_of-sets_of (take p commands) (accepted-take p commands accepted)

pub key_count : KeyCountLaw
key_count commands p accepted = ap length (keys_of-until commands p accepted) ∙ sym (length-book (take p commands))

agree : (one other : ℕ → Option Policy) → ((id : ℕ) → one id ≡ other id) → (ids : List ℕ) → filter_map one ids ≡ filter_map other ids
agree one other same [] = refl
agree one other same (id ∷ ids) = ap (λ first. cons_option first (filter_map one ids)) (same id) ∙ ap (cons_option (other id)) (agree one other same ids)

pub book-values : BookAtLaw
book-values commands p accepted =
    agree (policy_of (take p commands)) (λ key. value_at p (own key (sets_of commands))) (λ id. sym (value_at-sets_of commands id p)) (filter_map issue_id (take p commands))
    ∙ ap (filter_map (λ key. value_at p (own key (sets_of commands)))) (sym (keys_of-until commands p accepted))

pub index_placed : IndexLaw
index_placed commands p index accepted within =
    let issued : index < length (filter_map issue_id (take p commands)) = omega (arith, within, length-book (take p commands)) in
    let id = get_or (filter_map issue_id (take p commands)) index 0 in
    let here : slice_get (filter_map issue_id (take p commands)) index ≡ Some id = slice_get-get_or (filter_map issue_id (take p commands)) index 0 issued in
    record {
      key = id;
      place = ap (λ keys. slice_get keys index) (keys_of-sets_of commands accepted) ∙ issued_front p index commands issued ∙ here;
      policy = book_get (take p commands) index id here ∙ sym (value_at-sets_of commands id p);
    }

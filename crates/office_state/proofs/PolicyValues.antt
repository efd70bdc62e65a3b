-- What a policy's versions have to do with the policy
use Rattle.office_state.proofs.Names.{◌≡◌, ℕ, zero, suc, ◌+◌, ◌<◌, ◌≤◌, Bool, true, false, nat_eq, List, [], ◌∷◌, ◌++◌, length, take, slice_get, Some, Ok, Err, refl, sym, ap, ◌∙◌, subst, ◌⊎◌, inl, inr, arith, cases_lt, eq-eqb, eqb-true, length_push, take-append-le, take_all, slice_get_within, Command, Upgrade, Policy, Refusal, id_of, is_upgrade, next, kept, policy_of, policy_of-push_own, policy_of-push_other, newest_of, value_at, Setting, own, own-other, own-push, sets_of}
use Rattle.versioned_book.proofs.VersionSteps.{newest_of-push, value_at-past, value_at-within}
use Rattle.office_state.specs.versions.Policies.{EachSetLaw, IsSetBy, NewestPolicyLaw, PolicyAtLaw}
use Rattle.office_state.proofs.SetSteps.{by_accepted, by_each, setting_to, sets_of-accepted, sets_of-refused, sets_of-upgrade}

-- a setting after a position changes no value there
value_past : (p key : ℕ) (sets : List (Setting Policy)) (s : Setting Policy) → p < s.position → value_at p (own key (sets ++ s ∷ [])) ≡ value_at p (own key sets)
value_past p key sets s past = by (nat_eq s.key key) refl
  where
    by : (b : Bool) → nat_eq s.key key ≡ b → value_at p (own key (sets ++ s ∷ [])) ≡ value_at p (own key sets)
    by true e =
        subst (λ k. value_at p (own k (sets ++ s ∷ [])) ≡ value_at p (own k sets)) (eqb-true s.key key e)
        (ap (value_at p) (own-push sets s) ∙ value_at-past p (own s.key sets) s.position s.value past)
    by false e = ap (value_at p) (own-other sets s key e)

value_now : (p : ℕ) (sets : List (Setting Policy)) (s : Setting Policy) → s.position ≤ p → value_at p (own s.key (sets ++ s ∷ [])) ≡ Some s.value
value_now p sets s within = ap (value_at p) (own-push sets s) ∙ value_at-within p (own s.key sets) s.position s.value within

-- the policy after one more command
policy_now : (commands : List Command) (command : Command) (policy : Policy) → next (policy_of commands (id_of command)) command ≡ Ok policy
    → policy_of (commands ++ command ∷ []) (id_of command) ≡ Some policy
policy_now commands command policy e =
    policy_of-push_own commands command (id_of command) (eq-eqb (id_of command) (id_of command) refl)
    ∙ ap (kept (policy_of commands (id_of command))) e

policy_refused : (commands : List Command) (command : Command) (refusal : Refusal) (id : ℕ) → next (policy_of commands (id_of command)) command ≡ Err refusal
    → policy_of (commands ++ command ∷ []) id ≡ policy_of commands id
policy_refused commands command refusal id e = by (nat_eq (id_of command) id) refl
  where
    by : (b : Bool) → nat_eq (id_of command) id ≡ b → policy_of (commands ++ command ∷ []) id ≡ policy_of commands id
    by true same =
        subst (λ n. policy_of (commands ++ command ∷ []) n ≡ policy_of commands n) (eqb-true (id_of command) id same)
        (policy_of-push_own commands command (id_of command) (eq-eqb (id_of command) (id_of command) refl)
        ∙ ap (kept (policy_of commands (id_of command))) e)
    by false other = policy_of-push_other commands command id other

-- what holds of the value and the policy after all commands, and at each position before, holds at each
at_each : (commands : List Command) (command : Command) (id p : ℕ)
    → (p ≤ length commands → value_at p (own id (sets_of (commands ++ command ∷ []))) ≡ value_at p (own id (sets_of commands)))
    → (length commands < p → value_at p (own id (sets_of commands)) ≡ policy_of commands id → value_at p (own id (sets_of (commands ++ command ∷ []))) ≡ policy_of (commands ++ command ∷ []) id)
    → value_at p (own id (sets_of commands)) ≡ policy_of (take p commands) id
    → value_at p (own id (sets_of (commands ++ command ∷ []))) ≡ policy_of (take p (commands ++ command ∷ [])) id
at_each commands command id p before after here = by (cases_lt (length commands) p)
  where
    by : (length commands < p) ⊎ (p ≤ length commands) → value_at p (own id (sets_of (commands ++ command ∷ []))) ≡ policy_of (take p (commands ++ command ∷ [])) id
    by (inl past) =
        after past (here ∙ ap (λ c. policy_of c id) (take_all p commands (omega (arith, past))))
        ∙ sym (ap (λ c. policy_of c id) (take_all p (commands ++ command ∷ []) (omega (arith, past, length_push commands command))))
    by (inr within) = before within ∙ here ∙ sym (ap (λ c. policy_of c id) (take-append-le p commands (command ∷ []) within))

pub value_at-sets_of : PolicyAtLaw
value_at-sets_of = by_each (λ commands. (id p : ℕ) → value_at p (own id (sets_of commands)) ≡ policy_of (take p commands) id)
    none
    (λ commands command policy e here id p.
    at_each commands command id p
    (λ within. ap (λ sets. value_at p (own id sets)) (sets_of-accepted commands command policy e) ∙ value_past p id (sets_of commands) (setting_to commands command policy) (omega (arith, within)))
    (λ past so_far. accepted commands command policy e id p past so_far (nat_eq (id_of command) id) refl)
    (here id p))
    (λ commands command refusal e here id p.
    at_each commands command id p
    (λ within. ap (λ sets. value_at p (own id sets)) (sets_of-refused commands command refusal e))
    (λ past so_far. ap (λ sets. value_at p (own id sets)) (sets_of-refused commands command refusal e) ∙ so_far ∙ sym (policy_refused commands command refusal id e))
    (here id p))
  where
    none : (id p : ℕ) → value_at p (own id (sets_of [])) ≡ policy_of (take p []) id
    none id zero = refl
    none id (suc p) = refl

    accepted : (commands : List Command) (command : Command) (policy : Policy) → next (policy_of commands (id_of command)) command ≡ Ok policy → (id p : ℕ)
        → length commands < p → value_at p (own id (sets_of commands)) ≡ policy_of commands id → (b : Bool) → nat_eq (id_of command) id ≡ b
        → value_at p (own id (sets_of (commands ++ command ∷ []))) ≡ policy_of (commands ++ command ∷ []) id
    accepted commands command policy e id p past so_far true same =
        subst (λ n. value_at p (own n (sets_of (commands ++ command ∷ []))) ≡ policy_of (commands ++ command ∷ []) n) (eqb-true (id_of command) id same)
        (ap (λ sets. value_at p (own (id_of command) sets)) (sets_of-accepted commands command policy e)
        ∙ value_now p (sets_of commands) (setting_to commands command policy) (omega (arith, past))
        ∙ sym (policy_now commands command policy e))
    accepted commands command policy e id p past so_far false other =
        ap (λ sets. value_at p (own id sets)) (sets_of-accepted commands command policy e)
        ∙ ap (value_at p) (own-other (sets_of commands) (setting_to commands command policy) id other)
        ∙ so_far ∙ sym (policy_of-push_other commands command id other)

pub newest_of-sets_of : NewestPolicyLaw
newest_of-sets_of = by_each (λ commands. (id : ℕ) → newest_of (own id (sets_of commands)) ≡ policy_of commands id) (λ id. refl)
    (λ commands command policy e here id. accepted commands command policy e id (here id) (nat_eq (id_of command) id) refl)
    (λ commands command refusal e here id. ap (λ sets. newest_of (own id sets)) (sets_of-refused commands command refusal e) ∙ here id ∙ sym (policy_refused commands command refusal id e))
  where
    accepted : (commands : List Command) (command : Command) (policy : Policy) → next (policy_of commands (id_of command)) command ≡ Ok policy → (id : ℕ)
        → newest_of (own id (sets_of commands)) ≡ policy_of commands id → (b : Bool) → nat_eq (id_of command) id ≡ b
        → newest_of (own id (sets_of (commands ++ command ∷ []))) ≡ policy_of (commands ++ command ∷ []) id
    accepted commands command policy e id here true same =
        subst (λ n. newest_of (own n (sets_of (commands ++ command ∷ []))) ≡ policy_of (commands ++ command ∷ []) n) (eqb-true (id_of command) id same)
        (ap (λ sets. newest_of (own (id_of command) sets)) (sets_of-accepted commands command policy e)
        ∙ ap newest_of (own-push (sets_of commands) (setting_to commands command policy))
        ∙ newest_of-push (own (id_of command) (sets_of commands)) (length commands + 1, policy)
        ∙ sym (policy_now commands command policy e))
    accepted commands command policy e id here false other =
        ap (λ sets. newest_of (own id sets)) (sets_of-accepted commands command policy e)
        ∙ ap newest_of (own-other (sets_of commands) (setting_to commands command policy) id other)
        ∙ here ∙ sym (policy_of-push_other commands command id other)

-- an item of a list with one more is one of the list, or the last
get_last : {X : Type 0} (xs : List X) (y z : X) (i : ℕ) → slice_get (xs ++ y ∷ []) i ≡ Some z → (slice_get xs i ≡ Some z) ⊎ ((i ≡ length xs) × (y ≡ z))
get_last [] y z zero h = inr (refl, grind arith)
get_last [] y z (suc i) h = grind arith
get_last (x ∷ xs) y z zero h = inl h
get_last (x ∷ xs) y z (suc i) h = elim (get_last xs y z i h) [ inl a ↦ inl a | inr b ↦ inr (ap suc b.0, b.1) ]

get_still : {X : Type 0} (xs : List X) (y z : X) (i : ℕ) → slice_get xs i ≡ Some z → slice_get (xs ++ y ∷ []) i ≡ Some z
get_still [] y z i h = grind arith
get_still (x ∷ xs) y z zero h = h
get_still (x ∷ xs) y z (suc i) h = get_still xs y z i h

get_end : {X : Type 0} (xs : List X) (y : X) → slice_get (xs ++ y ∷ []) (length xs) ≡ Some y
get_end [] y = refl
get_end (x ∷ xs) y = get_end xs y

pub each_set : EachSetLaw
each_set commands place command accepted other at =
    by_accepted (λ commands. (place : ℕ) (command : Command) → is_upgrade command ≡ false → slice_get commands place ≡ Some command → IsSetBy commands place command)
    (λ place command other at. grind arith)
    (λ before last policy ok e here place command other at. one_more before last policy e here place command other (get_last before last command place at))
    (λ before ok here place command other at. upgraded before here place command other (get_last before Upgrade command place at))
    commands accepted place command other at
  where
    upgraded : (before : List Command)
        → ((place : ℕ) (command : Command) → is_upgrade command ≡ false → slice_get before place ≡ Some command → IsSetBy before place command)
        → (place : ℕ) (command : Command) → is_upgrade command ≡ false → (slice_get before place ≡ Some command) ⊎ ((place ≡ length before) × (Upgrade ≡ command))
        → IsSetBy (before ++ Upgrade ∷ []) place command
    upgraded before here place command other (inl old) =
        let was = here place command other old in
        record {
          policy = was.policy;
          after = ap (λ c. policy_of c (id_of command)) (take-append-le (place + 1) before (Upgrade ∷ []) (omega (arith, slice_get_within before place command old))) ∙ was.after;
          at = was.at;
          set = ap (λ sets. slice_get sets was.at) (sets_of-upgrade before) ∙ was.set;
        }
    upgraded before here place command other (inr new) =
        let is : is_upgrade command ≡ true = ap is_upgrade (sym new.1) in absurd (cc)

    one_more : (before : List Command) (last : Command) (policy : Policy) → next (policy_of before (id_of last)) last ≡ Ok policy
        → ((place : ℕ) (command : Command) → is_upgrade command ≡ false → slice_get before place ≡ Some command → IsSetBy before place command)
        → (place : ℕ) (command : Command) → is_upgrade command ≡ false → (slice_get before place ≡ Some command) ⊎ ((place ≡ length before) × (last ≡ command))
        → IsSetBy (before ++ last ∷ []) place command
    one_more before last policy e here place command other (inl old) =
        let was = here place command other old in
        record {
          policy = was.policy;
          after = ap (λ c. policy_of c (id_of command)) (take-append-le (place + 1) before (last ∷ []) (omega (arith, slice_get_within before place command old))) ∙ was.after;
          at = was.at;
          set = ap (λ sets. slice_get sets was.at) (sets_of-accepted before last policy e) ∙ get_still (sets_of before) (setting_to before last policy) _ was.at was.set;
        }
    one_more before last policy e here place command other (inr new) =
        subst (λ c. IsSetBy (before ++ last ∷ []) place c) new.1 (record {
          policy = policy;
          after = ap (λ c. policy_of c (id_of last)) (take_all (place + 1) (before ++ last ∷ []) (omega (arith, new.0, length_push before last))) ∙ policy_now before last policy e;
          at = length (sets_of before);
          set =
              ap (λ sets. slice_get sets (length (sets_of before))) (sets_of-accepted before last policy e)
              ∙ get_end (sets_of before) (setting_to before last policy)
              ∙ ap (λ n. Some (record { key = id_of last; position = n + 1; value = policy })) (sym new.0);
        })

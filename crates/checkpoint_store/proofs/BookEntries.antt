-- The entries of a book by number, in order of issue: what is found in them, and what one more command does to them.
use Rattle.checkpoint_store.proofs.Names.{◌≡◌, ◌⊎◌, inl, inr, nat_eq, ◌==◌, ℕ, ◌+◌, ◌≤◌, Bool, true, false, cond, List, [], ◌∷◌, ◌++◌, length, filter_map, refl, sym, ap, subst, ◌∙◌, arith, Option, None, Some, Ok, Err, IfSome, AllByRecursion, IsDistinct, cons_option, fold, keys_of, lookup, eqb-false, eqb-true, eq-eqb, ne_eqb, map-append, IndexMap, index_of, insert_entry, set_value_at, Command, Policy, id_of, IsSound, next, IsAccepted, book, issue_id, kept, own, policy_of, AreKeyed, Entries, numbered_policies}
use Rattle.indexmap.proofs.MapLemmas.{Found-position, insert_entry-first}
use Rattle.policy_types.specs.declared.refusal.Refusal.TheVariants.{Taken, Unknown}
use Rattle.policy_machine.proofs.AcceptedLemmas.{IsIssueHere, NeedsPolicy, issue_or_other}
use Rattle.policy_machine.proofs.BookGrowth.{IsThere, book-ids, book-push_change, book-push_issue, distinct_issues, policies_there}
use Rattle.policy_machine.proofs.BookLemmas.{policy_of-own}
use Rattle.checkpoint_store.specs.inside.Storing.{policy_ids}

-- a number that wasn't issued has no policy
all_tail : (P : ℕ → Type 0) (first : Option ℕ) (ids : List ℕ) → AllByRecursion P (cons_option first ids) → AllByRecursion P ids
all_tail P None ids all = all
all_tail P (Some id) ids all = all.1

unissued : (commands : List Command) (id : ℕ) → AllByRecursion (λ k. nat_eq id k ≡ false) (filter_map issue_id commands) → policy_of commands id ≡ None
unissued [] id apart = refl
unissued (command ∷ rest) id apart = split (unissued rest id (all_tail (λ k. nat_eq id k ≡ false) (issue_id command) (filter_map issue_id rest) apart)) (id_of command == id) refl
  where
    step : Option Policy → Command → Option Policy
    step policy command = kept policy (next policy command)

    split : policy_of rest id ≡ None → (b : Bool) → (id_of command == id) ≡ b → policy_of (command ∷ rest) id ≡ None
    split later false other = ap (λ b. fold (λ policy command. kept policy (next policy command)) None (cond b (command ∷ own rest id) (own rest id))) other ∙ later
    split later true same = by_kind (issue_or_other command)
      where
        by_kind : IsIssueHere command ⊎ NeedsPolicy command → policy_of (command ∷ rest) id ≡ None
        by_kind (inl c) =
            let issue : issue_id command ≡ Some c.id = ap issue_id c.is in
            let named : id_of command ≡ c.id = ap id_of c.is in
            let all : AllByRecursion (λ k. nat_eq id k ≡ false) (cons_option (Some c.id) (filter_map issue_id rest)) =
            subst (λ o. AllByRecursion (λ k. nat_eq id k ≡ false) (cons_option o (filter_map issue_id rest))) issue apart in
            absurd (eqb-false id c.id all.0 (sym (eqb-true (id_of command) id same) ∙ named))
        by_kind (inr other) =
            ap (λ b. fold (λ policy command. kept policy (next policy command)) None (cond b (command ∷ own rest id) (own rest id))) same
            ∙ ap (λ decision. fold (λ policy command. kept policy (next policy command)) (kept None decision) (own rest id)) other.refused ∙ later

-- what is found by a number
abbrev Found : (ℕ → Option Policy) → Entries → List ℕ → ℕ → Type 0
Found f es ids k = (lookup (nat_eq k) es ≡ f k) ⊎ ((lookup (nat_eq k) es ≡ None) × AllByRecursion (λ id. nat_eq k id ≡ false) ids)

look : (f : ℕ → Option Policy) (ids : List ℕ) (es : Entries) → AreKeyed es → numbered_policies es ≡ filter_map f ids
    → AllByRecursion (λ id. IsThere id (f id)) ids → (k : ℕ) → Found f es ids k
look f [] [] keyed same there k = inr (refl, tt)
look f [] (e ∷ es) keyed same there k = absurd (cc)
look f (id ∷ ids) es keyed same there k = with_first (λ es keyed same. look f ids es keyed same there.1 k) es keyed same (f id) refl there.0
  where
    with_entry : (e : ℕ × Policy) (es : Entries) (p : Policy) → f id ≡ Some p → p.id ≡ id → e.1 ≡ p → e.0 ≡ e.1.id → Found f es ids k
        → (b : Bool) → nat_eq k e.0 ≡ b → Found f (e ∷ es) (id ∷ ids) k
    with_entry e es p found own_id is key later true same =
        let number : k ≡ id = eqb-true k e.0 same ∙ key ∙ ap (λ (q : Policy). q.id) is ∙ own_id in
        inl (ap (λ b. cond b (Some e.1) (lookup (nat_eq k) es)) same ∙ ap Some is ∙ sym found ∙ ap f (sym number))
    with_entry e es p found own_id is key later false other =
        let past : lookup (nat_eq k) (e ∷ es) ≡ lookup (nat_eq k) es = ap (λ b. cond b (Some e.1) (lookup (nat_eq k) es)) other in
        let number : e.0 ≡ id = key ∙ ap (λ (q : Policy). q.id) is ∙ own_id in
        elim later [
          | inl same ↦ inl (past ∙ same)
          | inr none ↦ inr (past ∙ none.0, (ap (nat_eq k) (sym number) ∙ other, none.1))
        ]

    with_first : ((es : Entries) → AreKeyed es → numbered_policies es ≡ filter_map f ids → Found f es ids k)
        → (es : Entries) → AreKeyed es → numbered_policies es ≡ filter_map f (id ∷ ids) → (first : Option Policy) → f id ≡ first → IsThere id first → Found f es (id ∷ ids) k
    with_first onward es keyed same None none there = absurd there
    with_first onward [] keyed same (Some p) found own_id = absurd (let whole : [] ≡ p ∷ filter_map f ids = same ∙ ap (λ o. cons_option o (filter_map f ids)) found in cc)
    with_first onward (e ∷ es) keyed same (Some p) found own_id =
        let whole : e.1 ∷ numbered_policies es ≡ p ∷ filter_map f ids = same ∙ ap (λ o. cons_option o (filter_map f ids)) found in
        let is : e.1 ≡ p = cc in
        let rest : numbered_policies es ≡ filter_map f ids = cc in
        with_entry e es p found own_id is keyed.0 (onward es keyed.1 rest) (nat_eq k e.0) refl

-- the policy of a number
pub book_lookup : (commands : List Command) (es : Entries) → AreKeyed es → numbered_policies es ≡ book commands → (k : ℕ) → lookup (nat_eq k) es ≡ policy_of commands k
book_lookup commands es keyed same k = elim (look (policy_of commands) (filter_map issue_id commands) es keyed same (policies_there commands) k) [
  | inl found ↦ found
  | inr none ↦ none.0 ∙ sym (unissued commands k none.1)
]

-- a policy of a new number goes last
insert_new : (k : ℕ) (after : Policy) (es : Entries) → lookup (nat_eq k) es ≡ None → insert_entry nat_eq es k after ≡ es ++ (k, after) ∷ []
insert_new k after [] none = refl
insert_new k after (e ∷ es) none = by_test (insert_new k after es) (nat_eq k e.0) refl
  where
    by_test : (lookup (nat_eq k) es ≡ None → insert_entry nat_eq es k after ≡ es ++ (k, after) ∷ []) → (b : Bool) → nat_eq k e.0 ≡ b → insert_entry nat_eq (e ∷ es) k after ≡ (e ∷ es) ++ (k, after) ∷ []
    by_test onward true same = absurd (let some : lookup (nat_eq k) (e ∷ es) ≡ Some e.1 = ap (λ b. cond b (Some e.1) (lookup (nat_eq k) es)) same in cc)
    by_test onward false other =
        let past : lookup (nat_eq k) (e ∷ es) ≡ lookup (nat_eq k) es = ap (λ b. cond b (Some e.1) (lookup (nat_eq k) es)) other in
        ap (λ b. cond b ((e.0, after) ∷ es) (e ∷ insert_entry nat_eq es k after)) other ∙ ap (λ l. e ∷ l) (onward (sym past ∙ none))

-- a policy is replaced where it stands
insert_present : (k : ℕ) (before after : Policy) (front back : List Policy) (es : Entries) → AreKeyed es → numbered_policies es ≡ front ++ before ∷ back → before.id ≡ k
    → IsDistinct nat_eq (policy_ids (front ++ before ∷ back)) → numbered_policies (insert_entry nat_eq es k after) ≡ front ++ after ∷ back
unfolding IsDistinct
insert_present k before after [] back [] keyed same number distinct = absurd (cc)
insert_present k before after [] back (e ∷ es) keyed same number distinct =
    let is : e.1 ≡ before = cc in
    let rest : numbered_policies es ≡ back = cc in
    let key : nat_eq k e.0 ≡ true = eq-eqb k e.0 (sym number ∙ sym (ap (λ (q : Policy). q.id) is) ∙ sym keyed.0) in
    ap (λ b. numbered_policies (cond b ((e.0, after) ∷ es) (e ∷ insert_entry nat_eq es k after))) key ∙ ap (λ (l : List Policy). after ∷ l) rest
insert_present k before after (first ∷ front) back [] keyed same number distinct = absurd (cc)
insert_present k before after (first ∷ front) back (e ∷ es) keyed same number distinct =
    let is : e.1 ≡ first = cc in
    let rest : numbered_policies es ≡ front ++ before ∷ back = cc in
    let apart : nat_eq first.id before.id ≡ false = middle front distinct.0 in
    let key : nat_eq k e.0 ≡ false = ne_eqb k e.0 (λ same. eqb-false first.id before.id apart (sym (ap (λ (q : Policy). q.id) is) ∙ sym keyed.0 ∙ sym same ∙ sym number)) in
    ap (λ b. numbered_policies (cond b ((e.0, after) ∷ es) (e ∷ insert_entry nat_eq es k after))) key
    ∙ ap (λ (p : Policy). p ∷ numbered_policies (insert_entry nat_eq es k after)) is
    ∙ ap (λ (l : List Policy). first ∷ l) (insert_present k before after front back es keyed.1 rest number distinct.1)
  where
    middle : (front : List Policy) → AllByRecursion (λ y. nat_eq first.id y ≡ false) (policy_ids (front ++ before ∷ back)) → nat_eq first.id before.id ≡ false
    middle [] all = all.0
    middle (p ∷ front) all = middle front all.1

-- one is set where its number stands
pub set_there : {S : Type 0} (policies : IndexMap ℕ Policy S) (k i : ℕ) (after : Policy) → index_of nat_eq policies k ≡ Some i
    → set_value_at policies.entries i after ≡ insert_entry nat_eq policies.entries k after
set_there policies k i after is =
    sym (insert_entry-first nat_eq k after policies.entries i (Found-position (nat_eq k) policies.entries i is).first)

pub insert_keyed : (k : ℕ) (after : Policy) (es : Entries) → after.id ≡ k → AreKeyed es → AreKeyed (insert_entry nat_eq es k after)
insert_keyed k after [] number keyed = (sym number, tt)
insert_keyed k after (e ∷ es) number keyed = by_test (insert_keyed k after es number keyed.1) (nat_eq k e.0) refl
  where
    by_test : AreKeyed (insert_entry nat_eq es k after) → (b : Bool) → nat_eq k e.0 ≡ b → AreKeyed (insert_entry nat_eq (e ∷ es) k after)
    by_test later true same = subst (λ b. AreKeyed (cond b ((e.0, after) ∷ es) (e ∷ insert_entry nat_eq es k after))) (sym same) (sym (eqb-true k e.0 same) ∙ sym number, keyed.1)
    by_test later false other = subst (λ b. AreKeyed (cond b ((e.0, after) ∷ es) (e ∷ insert_entry nat_eq es k after))) (sym other) (keyed.0, later)

pub insert_sound : (k : ℕ) (after : Policy) (es : Entries) → IsSound after → AllByRecursion IsSound (numbered_policies es) → AllByRecursion IsSound (numbered_policies (insert_entry nat_eq es k after))
insert_sound k after [] here sound = (here, tt)
insert_sound k after (e ∷ es) here sound = by_test (insert_sound k after es here sound.1) (nat_eq k e.0) refl
  where
    by_test : AllByRecursion IsSound (numbered_policies (insert_entry nat_eq es k after)) → (b : Bool) → nat_eq k e.0 ≡ b → AllByRecursion IsSound (numbered_policies (insert_entry nat_eq (e ∷ es) k after))
    by_test later true same = subst (λ b. AllByRecursion IsSound (numbered_policies (cond b ((e.0, after) ∷ es) (e ∷ insert_entry nat_eq es k after)))) (sym same) (here, sound.1)
    by_test later false other = subst (λ b. AllByRecursion IsSound (numbered_policies (cond b ((e.0, after) ∷ es) (e ∷ insert_entry nat_eq es k after)))) (sym other) (sound.0, later)

pub insert_few : (k : ℕ) (after : Policy) (es : Entries) → length (numbered_policies (insert_entry nat_eq es k after)) ≤ length (numbered_policies es) + 1
insert_few k after [] = omega arith
insert_few k after (e ∷ es) = by_test (insert_few k after es) (nat_eq k e.0) refl
  where
    by_test : length (numbered_policies (insert_entry nat_eq es k after)) ≤ length (numbered_policies es) + 1 → (b : Bool) → nat_eq k e.0 ≡ b → length (numbered_policies (insert_entry nat_eq (e ∷ es) k after)) ≤ length (numbered_policies (e ∷ es)) + 1
    by_test few true same = subst (λ b. length (numbered_policies (cond b ((e.0, after) ∷ es) (e ∷ insert_entry nat_eq es k after))) ≤ length (numbered_policies (e ∷ es)) + 1) (sym same) (omega arith)
    by_test few false other = subst (λ b. length (numbered_policies (cond b ((e.0, after) ∷ es) (e ∷ insert_entry nat_eq es k after))) ≤ length (numbered_policies (e ∷ es)) + 1) (sym other) (omega (arith, few))

pub keyed_ids : (es : Entries) → AreKeyed es → keys_of es ≡ policy_ids (numbered_policies es)
keyed_ids [] keyed = refl
keyed_ids (e ∷ es) keyed = ap (λ (k : ℕ). k ∷ keys_of es) keyed.0 ∙ ap (λ (l : List ℕ). e.1.id ∷ l) (keyed_ids es keyed.1)

-- the book after one more accepted command
module _ (commands : List Command) (command : Command) (after : Policy) (es : Entries) (accepted : IsAccepted commands) (keyed : AreKeyed es)
    (same : numbered_policies es ≡ book commands) (ok : next (policy_of commands (id_of command)) command ≡ Ok after) where
  on_issue : IsIssueHere command → (policy : Option Policy) → policy_of commands (id_of command) ≡ policy
      → numbered_policies (insert_entry nat_eq es (id_of command) after) ≡ book (commands ++ command ∷ [])
  on_issue c (Some p) found = absurd (
      let refused : next (Some p) command ≡ Err Taken = ap (next (Some p)) c.is in
      let done : next (Some p) command ≡ Ok after = ap (λ o. next o command) (sym found) ∙ ok in
      cc
      )
  on_issue c None found =
      let issue : issue_id command ≡ Some (id_of command) = ap issue_id c.is ∙ ap Some (sym (ap id_of c.is)) in
      ap numbered_policies (insert_new (id_of command) after es (book_lookup commands es keyed same (id_of command) ∙ found))
      ∙ map-append (λ (e : ℕ × Policy). e.1) es ((id_of command, after) ∷ [])
      ∙ ap (λ (l : List Policy). l ++ after ∷ []) same
      ∙ sym (book-push_issue commands command (id_of command) after issue ok)

  on_change : NeedsPolicy command → (policy : Option Policy) → policy_of commands (id_of command) ≡ policy
      → numbered_policies (insert_entry nat_eq es (id_of command) after) ≡ book (commands ++ command ∷ [])
  on_change other None found = absurd (
      let refused : next None command ≡ Err Unknown = other.refused in
      let done : next None command ≡ Ok after = ap (λ o. next o command) (sym found) ∙ ok in
      cc
      )
  on_change other (Some before) found =
      let done : next (Some before) command ≡ Ok after = ap (λ o. next o command) (sym found) ∙ ok in
      let change = book-push_change commands command before after accepted other.none found done in
      let number : before.id ≡ id_of command = subst (λ o. IfSome o (λ (p : Policy). p.id ≡ id_of command)) found (policy_of-own commands (id_of command)) in
      let distinct : IsDistinct nat_eq (policy_ids (change.front ++ before ∷ change.back)) =
      subst (IsDistinct nat_eq) (sym (book-ids commands) ∙ ap policy_ids change.was) (distinct_issues commands accepted) in
      insert_present (id_of command) before after change.front change.back es keyed (same ∙ change.was) number distinct ∙ sym change.now

  pub book_more : numbered_policies (insert_entry nat_eq es (id_of command) after) ≡ book (commands ++ command ∷ [])
  book_more = elim (issue_or_other command) [
    | inl c ↦ on_issue c (policy_of commands (id_of command)) refl
    | inr other ↦ on_change other (policy_of commands (id_of command)) refl
  ]

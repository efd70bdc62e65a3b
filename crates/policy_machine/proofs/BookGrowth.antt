-- What one more accepted command does to the book: an issue adds its policy at the end, another command changes one
-- policy in its place
use Rattle.policy_machine.proofs.Names.{◌≡◌, ℕ, Bool, true, false, cond, ◌==◌, nat_eq, List, [], ◌∷◌, ◌++◌, map, refl, sym, ap, ◌⊎◌, inl, inr, ◌∙◌, append_assoc, append-nil, subst, None, Some, Option, Ok, Err, Result, IfSome, eqb-true, eq-eqb, ne_eqb, filter_map, arith, AllByRecursion, IsDistinct, fold, cons_option, eqb-false, filter-append, filter_map-append, fold-append, Command, Upgrade, Policy, Refusal, Taken, id_of, next, own, kept, policy_of, issue_id, book, judge, IsAccepted, IsAcceptedAfter}
use Rattle.policy_machine.proofs.AcceptedLemmas.{IsIssueHere, NeedsPolicy, issue_or_other, next-keeps}
use Rattle.policy_machine.proofs.BookLemmas.{policy_of-own, policy_of-push_own, policy_of-push_other}
use Rattle.policy_machine.proofs.JudgeLemmas.{accepted_next}

-- there is a policy, and it has the number
abbrev pub IsThere : ℕ → Option Policy → Type 0
IsThere id None = ⊥
IsThere id (Some p) = p.id ≡ id

-- what is there stays
IsThere-step : (id : ℕ) (p : Option Policy) (command : Command) → IsThere id p → IsThere id (kept p (next p command))
IsThere-step id None command there = absurd there
IsThere-step id (Some p) command there = by_decision (next (Some p) command) refl
  where
    by_decision : (decision : Result Policy Refusal) → next (Some p) command ≡ decision → IsThere id (kept (Some p) decision)
    by_decision (Ok after) accepted = (next-keeps p after command accepted).same_id ∙ there
    by_decision (Err refusal) refused = there

-- after its issue there is a policy of the number
IsThere-issue : (id : ℕ) (p : Option Policy) (command : Command) → issue_id command ≡ Some id → id_of command ≡ id → IfSome p (λ q. q.id ≡ id)
    → IsThere id (kept p (next p command))
IsThere-issue id None command issue own_id has = by_kind (issue_or_other command)
  where
    by_kind : IsIssueHere command ⊎ NeedsPolicy command → IsThere id (kept None (next None command))
    by_kind (inl c) =
        subst (λ (this : Command). IsThere id (kept None (next None this))) (sym c.is) (sym (ap id_of c.is) ∙ own_id)
    by_kind (inr other) = let none = other.none in absurd (cc)
IsThere-issue id (Some p) command issue own_id has = IsThere-step id (Some p) command has

IsThere-fold : (id : ℕ) (commands : List Command) (p : Option Policy) → IsThere id p
    → IsThere id (fold (λ policy command. kept policy (next policy command)) p commands)
IsThere-fold id [] p there = there
IsThere-fold id (command ∷ commands) p there =
    IsThere-fold id commands (kept p (next p command)) (IsThere-step id p command there)

pub policy_of-append : (before rest : List Command) (id : ℕ)
    → policy_of (before ++ rest) id ≡ fold (λ policy command. kept policy (next policy command)) (policy_of before id) (own rest id)
policy_of-append before rest id =
    let step = λ (policy : Option Policy) (command : Command). kept policy (next policy command) in
    ap (fold step None) (filter-append (λ c. id_of c == id) before rest) ∙ fold-append step None (own before id) (own rest id)

issue_id_is : (command : Command) (id : ℕ) → issue_id command ≡ Some id → id_of command ≡ id
issue_id_is command id issue = by_kind (issue_or_other command)
  where
    by_kind : IsIssueHere command ⊎ NeedsPolicy command → id_of command ≡ id
    by_kind (inl c) =
        let number : issue_id command ≡ Some c.id = ap issue_id c.is in
        let own_id : id_of command ≡ c.id = ap id_of c.is in
        cc
    by_kind (inr other) = let none = other.none in absurd (cc)

-- the policy of an issued number, whatever follows the issue
IsThere-issued : (before rest : List Command) (command : Command) (id : ℕ) → issue_id command ≡ Some id
    → IsThere id (policy_of (before ++ command ∷ rest) id)
IsThere-issued before rest command id issue =
    let step = λ (policy : Option Policy) (command : Command). kept policy (next policy command) in
    let own_id : id_of command ≡ id = issue_id_is command id issue in
    let first : own (command ∷ rest) id ≡ command ∷ own rest id =
    ap (λ b. cond b (command ∷ own rest id) (own rest id)) (eq-eqb (id_of command) id own_id) in
    let there : IsThere id (fold step (policy_of before id) (command ∷ own rest id)) =
    IsThere-fold id (own rest id) (step (policy_of before id) command)
    (IsThere-issue id (policy_of before id) command issue own_id (policy_of-own before id)) in
    subst (IsThere id) (sym (policy_of-append before (command ∷ rest) id ∙ ap (fold step (policy_of before id)) first)) there

issued_after : (before rest : List Command)
    → AllByRecursion (λ id. IsThere id (policy_of (before ++ rest) id)) (filter_map issue_id rest)
issued_after before [] = tt
issued_after before (command ∷ rest) =
    with_first
    (subst (λ commands. AllByRecursion (λ id. IsThere id (policy_of commands id)) (filter_map issue_id rest))
    (append_assoc before (command ∷ []) rest) (issued_after (before ++ command ∷ []) rest))
    (issue_id command) refl
  where
    with_first : AllByRecursion (λ id. IsThere id (policy_of (before ++ command ∷ rest) id)) (filter_map issue_id rest)
        → (first : Option ℕ) → issue_id command ≡ first
        → AllByRecursion (λ id. IsThere id (policy_of (before ++ command ∷ rest) id)) (cons_option first (filter_map issue_id rest))
    with_first onward None none = onward
    with_first onward (Some id) issue = (IsThere-issued before rest command id issue, onward)

-- each number that was issued has its policy
pub policies_there : (commands : List Command)
    → AllByRecursion (λ id. IsThere id (policy_of commands id)) (filter_map issue_id commands)
policies_there commands = issued_after [] commands

map_there : (policy : ℕ → Option Policy) (ids : List ℕ) → AllByRecursion (λ id. IsThere id (policy id)) ids
    → map (λ p. p.id) (filter_map policy ids) ≡ ids
map_there policy [] there = refl
map_there policy (id ∷ ids) there = with_first (map_there policy ids there.1) (policy id) there.0
  where
    with_first : map (λ p. p.id) (filter_map policy ids) ≡ ids → (first : Option Policy) → IsThere id first
        → map (λ p. p.id) (cons_option first (filter_map policy ids)) ≡ id ∷ ids
    with_first onward None none = absurd none
    with_first onward (Some p) own_id = ap (λ n. n ∷ map (λ q. q.id) (filter_map policy ids)) own_id ∙ ap (λ rest. id ∷ rest) onward

-- the numbers of the book are those of the issues, in their order
pub book-ids : (commands : List Command) → map (λ p. p.id) (book commands) ≡ filter_map issue_id commands
book-ids commands = map_there (policy_of commands) (filter_map issue_id commands) (policies_there commands)

-- two ways to look policies up that agree on the numbers
agree : (one other : ℕ → Option Policy) (ids : List ℕ) → AllByRecursion (λ id. one id ≡ other id) ids
    → filter_map one ids ≡ filter_map other ids
agree one other [] same = refl
agree one other (id ∷ ids) same =
    ap (λ first. cons_option first (filter_map one ids)) same.0 ∙ ap (cons_option (other id)) (agree one other ids same.1)

weaker : (P Q : ℕ → Type 0) (ids : List ℕ) → ((id : ℕ) → P id → Q id) → AllByRecursion P ids → AllByRecursion Q ids
weaker P Q [] onward all = tt
weaker P Q (id ∷ ids) onward all = (onward id all.0, weaker P Q ids onward all.1)

-- a number without a policy was never issued
not_issued : (commands : List Command) (id : ℕ) → policy_of commands id ≡ None
    → AllByRecursion (λ other. nat_eq id other ≡ false) (filter_map issue_id commands)
not_issued commands id none = weaker (λ other. IsThere other (policy_of commands other)) (λ other. nat_eq id other ≡ false)
    (filter_map issue_id commands) apart (policies_there commands)
  where
    apart : (other : ℕ) → IsThere other (policy_of commands other) → nat_eq id other ≡ false
    apart other there = ne_eqb id other (λ same. subst (IsThere other) (ap (policy_of commands) (sym same) ∙ none) there)

-- an accepted issue finds no policy of its number
issue_finds_none : (policy : Option Policy) (command : Command) (id : ℕ) (after : Policy) → issue_id command ≡ Some id
    → next policy command ≡ Ok after → policy ≡ None
issue_finds_none None command id after issue accepted = refl
issue_finds_none (Some p) command id after issue accepted = by_kind (issue_or_other command)
  where
    by_kind : IsIssueHere command ⊎ NeedsPolicy command → Some p ≡ None
    by_kind (inl c) =
        let refused : next (Some p) command ≡ Err Taken = ap (next (Some p)) c.is in absurd (cc)
    by_kind (inr other) = let none = other.none in absurd (cc)

-- an accepted issue adds its policy at the end
pub book-push_issue : (commands : List Command) (command : Command) (id : ℕ) (after : Policy) → issue_id command ≡ Some id
    → next (policy_of commands id) command ≡ Ok after → book (commands ++ command ∷ []) ≡ book commands ++ after ∷ []
book-push_issue commands command id after issue accepted =
    let more = commands ++ command ∷ [] in
    let none : policy_of commands id ≡ None = issue_finds_none (policy_of commands id) command id after issue accepted in
    let own_id : id_of command ≡ id = issue_id_is command id issue in
    let ids : filter_map issue_id more ≡ filter_map issue_id commands ++ id ∷ [] =
    filter_map-append issue_id commands (command ∷ []) ∙ ap (λ o. filter_map issue_id commands ++ cons_option o []) issue in
    let others : AllByRecursion (λ other. policy_of more other ≡ policy_of commands other) (filter_map issue_id commands) =
    weaker (λ other. nat_eq id other ≡ false) (λ other. policy_of more other ≡ policy_of commands other) (filter_map issue_id commands)
    (λ other apart. policy_of-push_other commands command other (ap (λ n. n == other) own_id ∙ apart)) (not_issued commands id none) in
    let last : policy_of more id ≡ Some after =
    policy_of-push_own commands command id (eq-eqb (id_of command) id own_id) ∙ ap (kept (policy_of commands id)) accepted in
    ap (filter_map (policy_of more)) ids
    ∙ filter_map-append (policy_of more) (filter_map issue_id commands) (id ∷ [])
    ∙ ap (λ front. front ++ cons_option (policy_of more id) []) (agree (policy_of more) (policy_of commands) (filter_map issue_id commands) others)
    ∙ ap (λ o. book commands ++ cons_option o []) last

AllByRecursion-push : {X : Type 0} (P : X → Type 0) (xs : List X) (x : X) → AllByRecursion P xs → P x → AllByRecursion P (xs ++ x ∷ [])
AllByRecursion-push P [] x all here = (here, tt)
AllByRecursion-push P (y ∷ xs) x all here = (all.0, AllByRecursion-push P xs x all.1 here)

apart_swapped : (a b : ℕ) → nat_eq a b ≡ false → nat_eq b a ≡ false
apart_swapped a b apart = ne_eqb b a (λ same. eqb-false a b apart (sym same))

IsDistinct-push : (ids : List ℕ) (id : ℕ) → IsDistinct nat_eq ids → AllByRecursion (λ other. nat_eq id other ≡ false) ids
    → IsDistinct nat_eq (ids ++ id ∷ [])
unfolding IsDistinct
IsDistinct-push [] id distinct apart = (tt, tt)
IsDistinct-push (first ∷ ids) id distinct apart = (
  AllByRecursion-push (λ other. nat_eq first other ≡ false) ids id distinct.0 (apart_swapped id first apart.0),
  IsDistinct-push ids id distinct.1 apart.1,
)

IsDistinct-nil : IsDistinct nat_eq []
unfolding IsDistinct
IsDistinct-nil = tt

-- an accepted issue makes a policy
issue_accepted : (before : List Command) (command : Command) (id : ℕ) → issue_id command ≡ Some id → judge before command ≡ None
    → (after : Policy) × (next (policy_of before (id_of command)) command ≡ Ok after)
issue_accepted before command id issue ok = by_kind (accepted_next before command ok)
  where
    by_kind : (command ≡ Upgrade) ⊎ ((after : Policy) × (next (policy_of before (id_of command)) command ≡ Ok after))
        → (after : Policy) × (next (policy_of before (id_of command)) command ≡ Ok after)
    by_kind (inr accepted) = accepted
    by_kind (inl upgrade) = let none : issue_id command ≡ None = ap issue_id upgrade in absurd (cc)

distinct_step : (before : List Command) (command : Command) → IsDistinct nat_eq (filter_map issue_id before)
    → judge before command ≡ None → IsDistinct nat_eq (filter_map issue_id (before ++ command ∷ []))
distinct_step before command distinct ok = subst (IsDistinct nat_eq) (sym (filter_map-append issue_id before (command ∷ []))) (with_first (issue_id command) refl)
  where
    with_first : (first : Option ℕ) → issue_id command ≡ first
        → IsDistinct nat_eq (filter_map issue_id before ++ cons_option first [])
    with_first None none = subst (IsDistinct nat_eq) (sym (append-nil (filter_map issue_id before))) distinct
    with_first (Some id) issue =
        let own_id : id_of command ≡ id = issue_id_is command id issue in
        let accepted = issue_accepted before command id issue ok in
        let none : policy_of before (id_of command) ≡ None =
        issue_finds_none (policy_of before (id_of command)) command id accepted.0 issue accepted.1 in
        IsDistinct-push (filter_map issue_id before) id distinct
        (not_issued before id (ap (policy_of before) (sym own_id) ∙ none))

distinct_after : (before rest : List Command) → IsDistinct nat_eq (filter_map issue_id before) → IsAcceptedAfter before rest
    → IsDistinct nat_eq (filter_map issue_id (before ++ rest))
distinct_after before [] distinct accepted = subst (λ commands. IsDistinct nat_eq (filter_map issue_id commands)) (sym (append-nil before)) distinct
distinct_after before (command ∷ rest) distinct accepted =
    subst (λ commands. IsDistinct nat_eq (filter_map issue_id commands)) (append_assoc before (command ∷ []) rest)
    (distinct_after (before ++ command ∷ []) rest (distinct_step before command distinct accepted.0) accepted.1)

-- no number is issued twice
pub distinct_issues : (commands : List Command) → IsAccepted commands → IsDistinct nat_eq (filter_map issue_id commands)
distinct_issues commands accepted = distinct_after [] commands IsDistinct-nil accepted

-- a number among others, and the ones before it and after it
pub record Among (ids : List ℕ) (id : ℕ) : Type 0 where
  pub front : List ℕ
  pub back : List ℕ
  pub split : ids ≡ front ++ id ∷ back

among_more : (first : Option ℕ) (ids : List ℕ) (id : ℕ) → Among ids id → Among (cons_option first ids) id
among_more None ids id among = among
among_more (Some other) ids id among =
    record { front = other ∷ among.front; back = among.back; split = ap (λ rest. other ∷ rest) among.split }

-- a number without a policy gets one only by its issue
no_policy_yet : (command : Command) (id : ℕ) → id_of command ≡ id → (issue_id command ≡ Some id) ⊎ (kept None (next None command) ≡ None)
no_policy_yet command id own_id = by_kind (issue_or_other command)
  where
    by_kind : IsIssueHere command ⊎ NeedsPolicy command → (issue_id command ≡ Some id) ⊎ (kept None (next None command) ≡ None)
    by_kind (inl c) = inl (ap issue_id c.is ∙ ap Some (sym (ap id_of c.is) ∙ own_id))
    by_kind (inr other) = inr (ap (kept None) other.refused)

-- a number with a policy was issued
was_issued : (commands : List Command) (id : ℕ) (p : Policy) → policy_of commands id ≡ Some p → Among (filter_map issue_id commands) id
was_issued [] id p found = grind arith
was_issued (command ∷ commands) id p found = split (was_issued commands id p) (id_of command == id) refl
  where
    here : issue_id command ≡ Some id → Among (filter_map issue_id (command ∷ commands)) id
    here issue = record {
      front = [];
      back = filter_map issue_id commands;
      split = ap (λ first. cons_option first (filter_map issue_id commands)) issue;
    }

    split : (policy_of commands id ≡ Some p → Among (filter_map issue_id commands) id)
        → (b : Bool) → (id_of command == id) ≡ b → Among (filter_map issue_id (command ∷ commands)) id
    split rest false other =
        let same : policy_of (command ∷ commands) id ≡ policy_of commands id =
        ap (λ b. fold (λ policy command. kept policy (next policy command)) None (cond b (command ∷ own commands id) (own commands id))) other in
        among_more (issue_id command) (filter_map issue_id commands) id (rest (sym same ∙ found))
    split rest true same =
        let start : policy_of (command ∷ commands) id ≡ fold (λ policy command. kept policy (next policy command)) (kept None (next None command)) (own commands id) =
        ap (λ b. fold (λ policy command. kept policy (next policy command)) None (cond b (command ∷ own commands id) (own commands id))) same in
        cases start (no_policy_yet command id (eqb-true (id_of command) id same))
      where
        cases : policy_of (command ∷ commands) id ≡ fold (λ policy command. kept policy (next policy command)) (kept None (next None command)) (own commands id)
            → (issue_id command ≡ Some id) ⊎ (kept None (next None command) ≡ None) → Among (filter_map issue_id (command ∷ commands)) id
        cases start (inl issue) = here issue
        cases start (inr none) =
            among_more (issue_id command) (filter_map issue_id commands) id
            (rest (sym (start ∙ ap (λ o. fold (λ policy command. kept policy (next policy command)) o (own commands id)) none) ∙ found))

-- the numbers before one of distinct numbers and after it are others
apart_around : (front back : List ℕ) (id : ℕ) → IsDistinct nat_eq (front ++ id ∷ back)
    → AllByRecursion (λ other. nat_eq id other ≡ false) front × AllByRecursion (λ other. nat_eq id other ≡ false) back
unfolding IsDistinct
apart_around [] back id distinct = (tt, distinct.0)
apart_around (other ∷ front) back id distinct =
    let rest = apart_around front back id distinct.1 in
    ((apart_swapped other id (middle front distinct.0), rest.0), rest.1)
  where
    middle : (front : List ℕ) → AllByRecursion (λ y. nat_eq other y ≡ false) (front ++ id ∷ back) → nat_eq other id ≡ false
    middle [] all = all.0
    middle (first ∷ front) all = middle front all.1

-- how the book changes: one policy in its place
pub record BookChange (commands more : List Command) (before after : Policy) : Type 0 where
  pub front : List Policy
  pub back : List Policy
  pub was : book commands ≡ front ++ before ∷ back
  pub now : book more ≡ front ++ after ∷ back

-- the policies of numbers among which one stands
filter_map-around : (policy : ℕ → Option Policy) (ids front back : List ℕ) (id : ℕ) (p : Policy) → ids ≡ front ++ id ∷ back
    → policy id ≡ Some p → filter_map policy ids ≡ filter_map policy front ++ p ∷ filter_map policy back
filter_map-around policy ids front back id p split found =
    ap (filter_map policy) split ∙ filter_map-append policy front (id ∷ back)
    ∙ ap (λ first. filter_map policy front ++ cons_option first (filter_map policy back)) found

-- an accepted command that issues nothing changes its policy in its place
pub book-push_change : (commands : List Command) (command : Command) (before after : Policy) → IsAccepted commands
    → issue_id command ≡ None → policy_of commands (id_of command) ≡ Some before → next (Some before) command ≡ Ok after
    → BookChange commands (commands ++ command ∷ []) before after
book-push_change commands command before after accepted no_issue found ok =
    let id = id_of command in
    let more = commands ++ command ∷ [] in
    let among = was_issued commands id before found in
    let around = apart_around among.front among.back id (subst (IsDistinct nat_eq) among.split (distinct_issues commands accepted)) in
    let ids : filter_map issue_id more ≡ filter_map issue_id commands =
    filter_map-append issue_id commands (command ∷ []) ∙ ap (λ first. filter_map issue_id commands ++ cons_option first []) no_issue ∙ append-nil (filter_map issue_id commands) in
    let last : policy_of more id ≡ Some after =
    policy_of-push_own commands command id (eq-eqb id id refl) ∙ ap (λ o. kept o (next o command)) found ∙ ap (kept (Some before)) ok in
    let others : (other : ℕ) → nat_eq id other ≡ false → policy_of more other ≡ policy_of commands other =
    λ other apart. policy_of-push_other commands command other apart in
    let same = λ (these : List ℕ) (apart : AllByRecursion (λ other. nat_eq id other ≡ false) these).
    agree (policy_of more) (policy_of commands) these
    (weaker (λ other. nat_eq id other ≡ false) (λ other. policy_of more other ≡ policy_of commands other) these others apart) in
    record {
      front = filter_map (policy_of commands) among.front;
      back = filter_map (policy_of commands) among.back;
      was = filter_map-around (policy_of commands) (filter_map issue_id commands) among.front among.back id before among.split found;
      now =
          ap (filter_map (policy_of more)) ids
          ∙ filter_map-around (policy_of more) (filter_map issue_id commands) among.front among.back id after among.split last
          ∙ ap (λ front. front ++ after ∷ filter_map (policy_of more) among.back) (same among.front around.0)
          ∙ ap (λ back. filter_map (policy_of commands) among.front ++ after ∷ back) (same among.back around.1);
    }

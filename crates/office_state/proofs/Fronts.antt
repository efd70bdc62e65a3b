-- The first of accepted commands, and the policies that they issue
use Rattle.office_state.proofs.Names.{◌≡◌, ℕ, zero, suc, ◌<◌, List, [], ◌∷◌, ◌++◌, length, take, drop, refl, sym, ap, ◌∙◌, Some, None, Option, filter_map, slice_get, arith, AllByRecursion, cons_option, take-append-drop, length-map, filter_map-append, Command, Policy, book, policy_of, issue_id, IsAccepted, IsAcceptedAfter}
use Rattle.policy_machine.proofs.BookGrowth.{IsThere, book-ids, policies_there}

accepted_front : (before front rest : List Command) → IsAcceptedAfter before (front ++ rest) → IsAcceptedAfter before front
accepted_front before [] rest accepted = tt
accepted_front before (command ∷ front) rest accepted = (accepted.0, accepted_front (before ++ command ∷ []) front rest accepted.1)

-- the first commands of accepted ones are accepted
pub accepted-take : (p : ℕ) (commands : List Command) → IsAccepted commands → IsAccepted (take p commands)
accepted-take p commands accepted = accepted_front [] (take p commands) (drop p commands) (rw take-append-drop accepted)

all_front : {X : Type 0} (P : X → Type 0) (front rest : List X) → AllByRecursion P (front ++ rest) → AllByRecursion P front
all_front P [] rest all = tt
all_front P (x ∷ front) rest all = (all.0, all_front P front rest all.1)

pub all-take : {X : Type 0} (P : X → Type 0) (p : ℕ) (xs : List X) → AllByRecursion P xs → AllByRecursion P (take p xs)
all-take P p xs all = all_front P (take p xs) (drop p xs) (rw take-append-drop all)

-- there are as many policies as issues
pub length-book : (commands : List Command) → length (book commands) ≡ length (filter_map issue_id commands)
length-book commands = sym (length-map (book commands) (λ p. p.id)) ∙ ap length (book-ids commands)

-- the numbers that commands issue begin with those that the first of them issue
pub issued_first : (p : ℕ) (commands : List Command) → filter_map issue_id commands ≡ filter_map issue_id (take p commands) ++ filter_map issue_id (drop p commands)
issued_first p commands = ap (filter_map issue_id) (sym (take-append-drop p commands)) ∙ filter_map-append issue_id (take p commands) (drop p commands)

get_front : {X : Type 0} (front rest : List X) (i : ℕ) → i < length front → slice_get (front ++ rest) i ≡ slice_get front i
get_front [] rest i within = absurd (omega (arith, within))
get_front (x ∷ front) rest zero within = refl
get_front (x ∷ front) rest (suc i) within = get_front front rest i (omega (arith, within))

-- so a number that these issue has its index among all
pub issued_front : (p i : ℕ) (commands : List Command) → i < length (filter_map issue_id (take p commands))
    → slice_get (filter_map issue_id commands) i ≡ slice_get (filter_map issue_id (take p commands)) i
issued_front p i commands within =
    ap (λ ids. slice_get ids i) (issued_first p commands)
    ∙ get_front (filter_map issue_id (take p commands)) (filter_map issue_id (drop p commands)) i within

get_there : (policy : ℕ → Option Policy) (ids : List ℕ) (i id : ℕ) → AllByRecursion (λ n. IsThere n (policy n)) ids
    → slice_get ids i ≡ Some id → slice_get (filter_map policy ids) i ≡ policy id
get_there policy [] i id there at = grind arith
get_there policy (first ∷ ids) zero id there at = by (policy first) refl there.0
  where
    same : first ≡ id
    same = grind arith

    by : (found : Option Policy) → policy first ≡ found → IsThere first found → slice_get (cons_option found (filter_map policy ids)) zero ≡ policy id
    by None e none = absurd none
    by (Some p) e some = sym e ∙ ap policy same
get_there policy (first ∷ ids) (suc i) id there at = by (policy first) there.0 (get_there policy ids i id there.1 at)
  where
    by : (found : Option Policy) → IsThere first found → slice_get (filter_map policy ids) i ≡ policy id → slice_get (cons_option found (filter_map policy ids)) (suc i) ≡ policy id
    by None none rest = absurd none
    by (Some p) some rest = rest

-- and the policy at an index of the book is that of the number issued there
pub book_get : (commands : List Command) (i id : ℕ) → slice_get (filter_map issue_id commands) i ≡ Some id
    → slice_get (book commands) i ≡ policy_of commands id
book_get commands i id at = get_there (policy_of commands) (filter_map issue_id commands) i id (policies_there commands) at

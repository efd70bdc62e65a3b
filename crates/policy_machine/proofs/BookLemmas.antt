-- What one more command does to the book
use Rattle.policy_machine.proofs.Names.{◌≡◌, ℕ, true, false, cond, ◌==◌, List, [], ◌∷◌, ◌++◌, ap, ◌∙◌, append_assoc, append-nil, Some, None, Option, Ok, Err, Result, IfOk, IfSome, refl, Bool, filter-append, filter_map-append, fold-append, Command, Upgrade, Policy, IsValid, id_of, IsSound, next, Refusal, own, kept, policy_of, issue_id, book, judge, IsAccepted, IsAcceptedAfter}
use Rattle.std.specs.List.{AllByRecursion, cons_option, filter_map, fold}
use Rattle.std.proofs.lemmas.Bool.{eqb-true}
use Rattle.policy_machine.proofs.AcceptedLemmas.{next-own}
use Rattle.policy_machine.proofs.SoundLemmas.{next-sound}

-- one more command after accepted ones
pub IsAcceptedAfter-push : (before rest : List Command) (command : Command) → IsAcceptedAfter before rest
    → judge (before ++ rest) command ≡ None → IsAcceptedAfter before (rest ++ command ∷ [])
IsAcceptedAfter-push before [] command so_far here =
    let here' : judge before command ≡ None = rw append-nil at here in (here', tt)
IsAcceptedAfter-push before (first ∷ rest) command so_far here =
    (so_far.0, IsAcceptedAfter-push (before ++ first ∷ []) rest command so_far.1 (rw append_assoc here))

pub IsAccepted-push : (commands : List Command) (command : Command) → IsAccepted commands
    → judge commands command ≡ None → IsAccepted (commands ++ command ∷ [])
IsAccepted-push commands command so_far here = IsAcceptedAfter-push [] commands command so_far here

own-push : (commands : List Command) (command : Command) (id : ℕ)
    → own (commands ++ command ∷ []) id ≡ own commands id ++ cond (id_of command == id) (command ∷ []) []
own-push commands command id = filter-append (λ c. id_of c == id) commands (command ∷ [])

-- the policy of the number that the last command names
pub policy_of-push_own : (commands : List Command) (command : Command) (id : ℕ) → (id_of command == id) ≡ true
    → policy_of (commands ++ command ∷ []) id ≡ kept (policy_of commands id) (next (policy_of commands id) command)
policy_of-push_own commands command id own_id =
    let step = λ (policy : Option Policy) (c : Command). kept policy (next policy c) in
    let appended : own (commands ++ command ∷ []) id ≡ own commands id ++ command ∷ [] =
    own-push commands command id ∙ ap (λ b. own commands id ++ cond b (command ∷ []) []) own_id in
    ap (λ cs. fold step None cs) appended ∙ fold-append step None (own commands id) (command ∷ [])

-- and of every other number
pub policy_of-push_other : (commands : List Command) (command : Command) (id : ℕ) → (id_of command == id) ≡ false
    → policy_of (commands ++ command ∷ []) id ≡ policy_of commands id
policy_of-push_other commands command id other_id =
    let step = λ (policy : Option Policy) (c : Command). kept policy (next policy c) in
    let appended : own (commands ++ command ∷ []) id ≡ own commands id ++ [] =
    own-push commands command id ∙ ap (λ b. own commands id ++ cond b (command ∷ []) []) other_id in
    ap (λ cs. fold step None cs) appended ∙ fold-append step None (own commands id) []

-- an upgrade leaves every policy
pub policy_of-upgrade : (commands : List Command) (id : ℕ) → policy_of (commands ++ Upgrade ∷ []) id ≡ policy_of commands id
policy_of-upgrade commands id = by_test (0 == id) refl
  where
    kept_upgrade : (policy : Option Policy) → kept policy (next policy Upgrade) ≡ policy
    kept_upgrade None = refl
    kept_upgrade (Some p) = refl

    by_test : (b : Bool) → (0 == id) ≡ b → policy_of (commands ++ Upgrade ∷ []) id ≡ policy_of commands id
    by_test true own_id = policy_of-push_own commands Upgrade id own_id ∙ kept_upgrade (policy_of commands id)
    by_test false other_id = policy_of-push_other commands Upgrade id other_id

-- two ways to look policies up that agree
pub filter_map-same : (one other : ℕ → Option Policy) → ((id : ℕ) → one id ≡ other id) → (ids : List ℕ)
    → filter_map one ids ≡ filter_map other ids
filter_map-same one other same [] = refl
filter_map-same one other same (id ∷ ids) =
    ap (λ first. cons_option first (filter_map one ids)) (same id) ∙ ap (cons_option (other id)) (filter_map-same one other same ids)

-- and the book
pub book-upgrade : (commands : List Command) → book (commands ++ Upgrade ∷ []) ≡ book commands
book-upgrade commands =
    ap (filter_map (policy_of (commands ++ Upgrade ∷ [])))
    (filter_map-append issue_id commands (Upgrade ∷ []) ∙ append-nil (filter_map issue_id commands))
    ∙ filter_map-same (policy_of (commands ++ Upgrade ∷ [])) (policy_of commands) (policy_of-upgrade commands) (filter_map issue_id commands)

abbrev step : Option Policy → Command → Option Policy
step policy command = kept policy (next policy command)

-- what each of a number's commands keeps is kept by all of them
own_keep : (P : Option Policy → Type 0) (Q : Command → Type 0) (id : ℕ)
    → ((before : Option Policy) (command : Command) → Q command → id_of command ≡ id → P before → P (step before command))
    → (commands : List Command) (before : Option Policy) → AllByRecursion Q commands → P before → P (fold step before (own commands id))
own_keep P Q id each [] before valid here = here
own_keep P Q id each (command ∷ commands) before valid here =
    at_test (id_of command == id) refl (own_keep P Q id each commands before valid.1 here)
    (λ own_id. own_keep P Q id each commands (step before command) valid.1 (each before command valid.0 own_id here))
  where
    at_test : (b : Bool) → (id_of command == id) ≡ b → P (fold step before (own commands id))
        → (id_of command ≡ id → P (fold step (step before command) (own commands id)))
        → P (fold step before (cond b (command ∷ own commands id) (own commands id)))
    at_test true e others mine = mine (eqb-true (id_of command) id e)
    at_test false e others mine = others

kept_if : (P : Policy → Type 0) (before : Option Policy) (decision : Result Policy Refusal) → IfSome before P → IfOk decision P
    → IfSome (kept before decision) P
kept_if P before (Ok after) here then = then
kept_if P before (Err refusal) here then = here

-- the policies of valid commands are sound
pub policy_of-sound : (commands : List Command) (id : ℕ) → AllByRecursion IsValid commands → IfSome (policy_of commands id) IsSound
policy_of-sound commands id valid =
    own_keep (λ policy. IfSome policy IsSound) IsValid id
    (λ before command valid_here own_id sound. kept_if IsSound before (next before command) sound (next-sound before command valid_here sound))
    commands None valid tt

all_commands : (commands : List Command) → AllByRecursion (λ (command : Command). Unit {0}) commands
all_commands [] = tt
all_commands (command ∷ commands) = (tt, all_commands commands)

-- and each has its number
pub policy_of-own : (commands : List Command) (id : ℕ) → IfSome (policy_of commands id) (λ p. p.id ≡ id)
policy_of-own commands id =
    own_keep (λ policy. IfSome policy (λ p. p.id ≡ id)) (λ command. Unit {0}) id
    (λ before command unit own_id here. kept_if (λ p. p.id ≡ id) before (next before command) here (next-own before command id own_id here))
    commands None (all_commands commands) tt

filter_map_each : (P : Policy → Type 0) (find : ℕ → Option Policy) → ((id : ℕ) → IfSome (find id) P) → (ids : List ℕ)
    → AllByRecursion P (filter_map find ids)
filter_map_each P find each [] = tt
filter_map_each P find each (id ∷ ids) = with_one (find id) (filter_map find ids) (each id) (filter_map_each P find each ids)
  where
    with_one : (found : Option Policy) (others : List Policy) → IfSome found P → AllByRecursion P others
        → AllByRecursion P (cons_option found others)
    with_one None others here rest = rest
    with_one (Some p) others here rest = (here, rest)

pub book-sound : (commands : List Command) → AllByRecursion IsValid commands → AllByRecursion IsSound (book commands)
book-sound commands valid = filter_map_each IsSound (policy_of commands) (λ id. policy_of-sound commands id valid) (filter_map issue_id commands)

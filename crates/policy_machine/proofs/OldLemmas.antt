-- Old journals mean what they meant
use Rattle.policy_machine.proofs.Names.{◌≡◌, ◌↔◌, ◌&&◌, ◌==◌, Bool, true, false, not, nat_lt, int_lt, nat_le, if◌then◌else◌, cond, List, [], ◌∷◌, ◌++◌, ℕ, ℤ, pos, ◌-ℤ◌, refl, sym, ap, ◌∙◌, Some, None, Option, Ok, Err, Result, Command, Issue, Premium, Alter, Lapse, Reinstate, Claim, Settle, Mature, MakePaidUp, Upgrade, Plan, Term, Whole, Endowment, Limited, Policy, Status, Refusal, WrongStatus, TooEarly, GraceOver, WrongAmount, NotAReduction, NotMatured, id_of, refuse, first_refusal, decided, changed, matured, checks_of, day_before_last, not_in_force, not_insured, term_over, nothing_due, grace_over, payments_of, grace_end_of, due_of, end_of, is_paid_up, is_insured, is_in_force, next, own, kept, policy_of, issue_id, book, left_by, judge, refusal_in, IsAccepted, IsAcceptedAfter}
use Rattle.std.specs.List.{AllByRecursion, filter_map, fold}
use Rattle.policy_types.specs.declared.policy.Status.TheVariants.{InForce, Lapsed, Claimed, Matured, Expired, Settled, PaidUp}
use Rattle.policy_types.specs.Accounts.{nothing_booked, added}
use Rattle.policy_machine.specs.Accounts.{ledger_of}
use Rattle.policy_machine.proofs.Parts.{booked_on, bookings_after}
use Rattle.std.specs.Result.{result_err}
use Rattle.policy_machine.specs.Before.{IsOldCommand, old_grace_over, old_checks, old_changed, old_booked, old_next, old_policy_of, old_book, old_refusal, WereAccepted, WereAcceptedAfter, old_bookings_after, old_ledger}
use Rattle.policy_machine.proofs.BookLemmas.{filter_map-same}

-- a policy as there were: none was paid up
abbrev IsOldPolicy : Option Policy → Type 0
IsOldPolicy None = Unit {0}
IsOldPolicy (Some p) = is_paid_up p.status ≡ false

insured_then : (status : Status) → is_paid_up status ≡ false → is_insured status ≡ is_in_force status
insured_then InForce e = refl
insured_then Lapsed e = refl
insured_then Claimed e = refl
insured_then Matured e = refl
insured_then Expired e = refl
insured_then Settled e = refl
insured_then PaidUp e = absurd (cc)

grace_then : (p : Policy) (day : ℤ) → is_paid_up p.status ≡ false → grace_over p day ≡ old_grace_over p day
grace_then p day e =
    ap (λ b. refuse ((not b && nat_lt p.paid (payments_of p)) && int_lt (grace_end_of p) day) (GraceOver (due_of p))) e

status_then : (p : Policy) → is_paid_up p.status ≡ false → not_insured p ≡ not_in_force p
status_then p e = ap (λ b. refuse (not b) (WrongStatus p.status)) (insured_then p.status e)

checks_then : (p : Policy) (command : Command) → IsOldCommand command → is_paid_up p.status ≡ false → checks_of p command ≡ old_checks p command
checks_then p (Issue id day plan age years amount premium) old e = refl
checks_then p (Premium id day amount) old e =
    ap (λ check. day_before_last p day ∷ not_in_force p ∷ term_over p day ∷ nothing_due p
    ∷ refuse (int_lt day (due_of p -ℤ pos 90)) (TooEarly (due_of p)) ∷ check
    ∷ refuse (not (amount == p.premium)) (WrongAmount p.premium) ∷ []) (grace_then p day e)
checks_then p (Alter id day amount premium) old e =
    ap (λ check. day_before_last p day ∷ not_in_force p ∷ term_over p day ∷ check
    ∷ refuse (nat_le p.amount amount) (NotAReduction p.amount) ∷ []) (grace_then p day e)
checks_then p (Lapse id day) old e = refl
checks_then p (Reinstate id day amount) old e = refl
checks_then p (Claim id day) old e =
    ap (λ check. day_before_last p day ∷ check ∷ term_over p day ∷ grace_over p day ∷ []) (status_then p e)
    ∙ ap (λ check. day_before_last p day ∷ not_in_force p ∷ term_over p day ∷ check ∷ []) (grace_then p day e)
checks_then p (Settle id day amount) old e = refl
checks_then p (Mature id day) old e =
    ap (λ check. day_before_last p day ∷ check ∷ grace_over p day ∷ refuse (int_lt day (end_of p)) (NotMatured (end_of p)) ∷ []) (status_then p e)
    ∙ ap (λ check. day_before_last p day ∷ not_in_force p ∷ check ∷ refuse (int_lt day (end_of p)) (NotMatured (end_of p)) ∷ []) (grace_then p day e)
checks_then p (MakePaidUp id day amount) old e = absurd old
checks_then p Upgrade old e = absurd old

same_change : (p : Policy) (command : Command) → IsOldCommand command → changed p command ≡ old_changed p command
same_change p (Issue id day plan age years amount premium) old = refl
same_change p (Premium id day amount) old = refl
same_change p (Alter id day amount premium) old = refl
same_change p (Lapse id day) old = refl
same_change p (Reinstate id day amount) old = refl
same_change p (Claim id day) old = refl
same_change p (Settle id day amount) old = refl
same_change p (Mature id day) old = refl
same_change p (MakePaidUp id day amount) old = absurd old
same_change p Upgrade old = absurd old

same_booking : (policy : Option Policy) (command : Command) → IsOldCommand command → booked_on policy command ≡ old_booked policy command
same_booking None (Issue id day plan age years amount premium) old = refl
same_booking None (Premium id day amount) old = refl
same_booking None (Alter id day amount premium) old = refl
same_booking None (Lapse id day) old = refl
same_booking None (Reinstate id day amount) old = refl
same_booking None (Claim id day) old = refl
same_booking None (Settle id day amount) old = refl
same_booking None (Mature id day) old = refl
same_booking (Some p) (Issue id day plan age years amount premium) old = refl
same_booking (Some p) (Premium id day amount) old = refl
same_booking (Some p) (Alter id day amount premium) old = refl
same_booking (Some p) (Lapse id day) old = refl
same_booking (Some p) (Reinstate id day amount) old = refl
same_booking (Some p) (Claim id day) old = refl
same_booking (Some p) (Settle id day amount) old = refl
same_booking (Some p) (Mature id day) old = refl
same_booking policy (MakePaidUp id day amount) old = absurd old
same_booking policy Upgrade old = absurd old

-- the rules of an old command on an old policy stand as they stood
next_then : (policy : Option Policy) (command : Command) → IsOldCommand command → IsOldPolicy policy → next policy command ≡ old_next policy command
next_then None (Issue id day plan age years amount premium) old e = refl
next_then None (Premium id day amount) old e = refl
next_then None (Alter id day amount premium) old e = refl
next_then None (Lapse id day) old e = refl
next_then None (Reinstate id day amount) old e = refl
next_then None (Claim id day) old e = refl
next_then None (Settle id day amount) old e = refl
next_then None (Mature id day) old e = refl
next_then None (MakePaidUp id day amount) old e = absurd old
next_then None Upgrade old e = absurd old
next_then (Some p) command old e =
    ap (λ checks. decided (first_refusal checks) (changed p command)) (checks_then p command old e)
    ∙ ap (λ after. decided (first_refusal (old_checks p command)) after) (same_change p command old)

matured_then : (plan : Plan) (p : Policy) → is_paid_up (matured plan p).status ≡ false
matured_then Term p = refl
matured_then Whole p = refl
matured_then Endowment p = refl
matured_then Limited p = refl

changed_then : (p : Policy) (command : Command) → IsOldCommand command → is_paid_up p.status ≡ false → is_paid_up (changed p command).status ≡ false
changed_then p (Issue id day plan age years amount premium) old e = e
changed_then p (Premium id day amount) old e = e
changed_then p (Alter id day amount premium) old e = e
changed_then p (Lapse id day) old e = refl
changed_then p (Reinstate id day amount) old e = refl
changed_then p (Claim id day) old e = refl
changed_then p (Settle id day amount) old e = by_rest (amount == p.outstanding)
  where
    by_rest : (b : Bool) → is_paid_up (if b then Settled else p.status) ≡ false
    by_rest true = refl
    by_rest false = e
changed_then p (Mature id day) old e = matured_then p.plan (record p { last = day })
changed_then p (MakePaidUp id day amount) old e = absurd old
changed_then p Upgrade old e = absurd old

-- and none becomes paid up
IsOldPolicy-step : (policy : Option Policy) (command : Command) → IsOldCommand command → IsOldPolicy policy → IsOldPolicy (kept policy (next policy command))
IsOldPolicy-step None (Issue id day plan age years amount premium) old e = refl
IsOldPolicy-step None (Premium id day amount) old e = tt
IsOldPolicy-step None (Alter id day amount premium) old e = tt
IsOldPolicy-step None (Lapse id day) old e = tt
IsOldPolicy-step None (Reinstate id day amount) old e = tt
IsOldPolicy-step None (Claim id day) old e = tt
IsOldPolicy-step None (Settle id day amount) old e = tt
IsOldPolicy-step None (Mature id day) old e = tt
IsOldPolicy-step None (MakePaidUp id day amount) old e = absurd old
IsOldPolicy-step None Upgrade old e = absurd old
IsOldPolicy-step (Some p) command old e = by_decision (first_refusal (checks_of p command))
  where
    by_decision : (refusal : Option Refusal) → IsOldPolicy (kept (Some p) (decided refusal (changed p command)))
    by_decision None = changed_then p command old e
    by_decision (Some refusal) = e

abbrev step : Option Policy → Command → Option Policy
step policy command = kept policy (next policy command)

abbrev old_step : Option Policy → Command → Option Policy
old_step policy command = kept policy (old_next policy command)

-- the same policy after the commands of a number, and an old one
policies_then : (commands : List Command) (id : ℕ) (policy : Option Policy) → AllByRecursion IsOldCommand commands → IsOldPolicy policy
    → (fold step policy (own commands id) ≡ fold old_step policy (own commands id)) × IsOldPolicy (fold step policy (own commands id))
policies_then [] id policy old e = (refl, e)
policies_then (command ∷ commands) id policy old e =
    by_test (id_of command == id) (policies_then commands id policy old.1 e)
    (policies_then commands id (step policy command) old.1 (IsOldPolicy-step policy command old.0 e))
  where
    by_test : (b : Bool)
        → (fold step policy (own commands id) ≡ fold old_step policy (own commands id)) × IsOldPolicy (fold step policy (own commands id))
        → (fold step (step policy command) (own commands id) ≡ fold old_step (step policy command) (own commands id)) × IsOldPolicy (fold step (step policy command) (own commands id))
        → (fold step policy (cond b (command ∷ own commands id) (own commands id)) ≡ fold old_step policy (cond b (command ∷ own commands id) (own commands id)))
        × IsOldPolicy (fold step policy (cond b (command ∷ own commands id) (own commands id)))
    by_test true others mine =
        (mine.0 ∙ ap (λ decision. fold old_step (kept policy decision) (own commands id)) (next_then policy command old.0 e), mine.1)
    by_test false others mine = others

pub policy_of-old : (commands : List Command) (id : ℕ) → AllByRecursion IsOldCommand commands → policy_of commands id ≡ old_policy_of commands id
policy_of-old commands id old = (policies_then commands id None old tt).0

pub book-old : (commands : List Command) → AllByRecursion IsOldCommand commands → book commands ≡ old_book commands
book-old commands old =
    filter_map-same (policy_of commands) (old_policy_of commands) (λ id. policy_of-old commands id old) (filter_map issue_id commands)

-- an old command is judged only by its policy
judged_then : (before : List Command) (command : Command) → IsOldCommand command
    → judge before command ≡ refusal_in (left_by (next (policy_of before (id_of command)) command))
judged_then before (Issue id day plan age years amount premium) old = refl
judged_then before (Premium id day amount) old = refl
judged_then before (Alter id day amount premium) old = refl
judged_then before (Lapse id day) old = refl
judged_then before (Reinstate id day amount) old = refl
judged_then before (Claim id day) old = refl
judged_then before (Settle id day amount) old = refl
judged_then before (Mature id day) old = refl
judged_then before (MakePaidUp id day amount) old = absurd old
judged_then before Upgrade old = absurd old

refused_so : (decision : Result Policy Refusal) → refusal_in (left_by decision) ≡ result_err decision
refused_so (Ok after) = refl
refused_so (Err refusal) = refl

pub judge-old : (before : List Command) (command : Command) → AllByRecursion IsOldCommand before → IsOldCommand command
    → judge before command ≡ old_refusal before command
judge-old before command old this =
    let policies = policies_then before (id_of command) None old tt in
    judged_then before command this
    ∙ ap (λ decision. refusal_in (left_by decision)) (next_then (policy_of before (id_of command)) command this policies.1)
    ∙ ap (λ policy. refusal_in (left_by (old_next policy command))) policies.0
    ∙ refused_so (old_next (old_policy_of before (id_of command)) command)

all_push : (commands : List Command) (command : Command) → AllByRecursion IsOldCommand commands → IsOldCommand command
    → AllByRecursion IsOldCommand (commands ++ command ∷ [])
all_push [] command all last = (last, tt)
all_push (first ∷ rest) command all last = (all.0, all_push rest command all.1 last)

accepted_then : (before rest : List Command) → AllByRecursion IsOldCommand before → AllByRecursion IsOldCommand rest
    → IsAcceptedAfter before rest ↔ WereAcceptedAfter before rest
accepted_then before [] old onward = (λ so. tt, λ so. tt)
accepted_then before (command ∷ rest) old onward =
    let same = judge-old before command old onward.0 in
    let later = accepted_then (before ++ command ∷ []) rest (all_push before command old onward.0) onward.1 in
    (λ so. (sym same ∙ so.0, later.0 so.1), λ so. (same ∙ so.0, later.1 so.1))

pub IsAccepted-old : (commands : List Command) → AllByRecursion IsOldCommand commands → IsAccepted commands ↔ WereAccepted commands
IsAccepted-old commands old = accepted_then [] commands tt old

bookings_then : (before rest : List Command) → AllByRecursion IsOldCommand before → AllByRecursion IsOldCommand rest
    → bookings_after before rest ≡ old_bookings_after before rest
bookings_then before [] old onward = refl
bookings_then before (command ∷ rest) old onward =
    let more = all_push before command old onward.0 in
    ap (λ policy. booked_on policy command ∷ bookings_after (before ++ command ∷ []) rest) (policy_of-old (before ++ command ∷ []) (id_of command) more)
    ∙ ap (λ booking. booking ∷ bookings_after (before ++ command ∷ []) rest)
    (same_booking (old_policy_of (before ++ command ∷ []) (id_of command)) command onward.0)
    ∙ ap (λ bookings. old_booked (old_policy_of (before ++ command ∷ []) (id_of command)) command ∷ bookings)
    (bookings_then (before ++ command ∷ []) rest more onward.1)

pub ledger_of-old : (commands : List Command) → AllByRecursion IsOldCommand commands → ledger_of commands ≡ old_ledger commands
ledger_of-old commands old = ap (fold added nothing_booked) (bookings_then [] commands tt old)

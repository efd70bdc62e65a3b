-- What one more command does to the balances
use Rattle.policy_machine.proofs.Names.{◌≡◌, ℕ, ◌+◌, ◌*◌, ◌≤◌, ◌==◌, true, List, [], ◌∷◌, ◌++◌, length, ℤ, pos, ◌+ℤ◌, refl, sym, ap, ◌∙◌, ◌⊎◌, inl, inr, append_assoc, append-nil, None, Some, Option, Ok, Result, cond, false, subst, suc, arith, rules, fold, AllByRecursion, ints, fold-append, Command, Issue, Premium, Alter, Lapse, Reinstate, Claim, Settle, Mature, MakePaidUp, Upgrade, Policy, Plan, Term, Whole, Endowment, Limited, Status, Refusal, id_of, IsValid, next, decided, changed, matured, checks_of, first_refusal, kept, own, policy_of}
use Rattle.policy_types.specs.declared.policy.Status.TheVariants.{InForce, Lapsed, Claimed, Matured, Expired, Settled, PaidUp}
use Rattle.policy_types.specs.Accounts.{Booking, against, added, sum_of, IsWithin, AreWithin, booking_of, nothing_booked, premium_received, benefit_incurred, benefit_paid}
use Rattle.policy_machine.specs.Accounts.{ledger_of}
use Rattle.policy_machine.proofs.Parts.{booked_at_term, booked_on, booked_after, bookings_after}
use Rattle.policy_machine.proofs.AcceptedLemmas.{IsIssueHere, NeedsPolicy, issue_or_other}
use Rattle.policy_machine.proofs.BookLemmas.{policy_of-push_own}

-- one more booking
bookings_after-push : (before rest : List Command) (command : Command)
    → bookings_after before (rest ++ command ∷ []) ≡ bookings_after before rest ++ booked_after (before ++ rest) command ∷ []
bookings_after-push before [] command = rw append-nil
bookings_after-push before (first ∷ rest) command =
    let onward = λ (bookings : List Booking). booked_after before first ∷ bookings in
    ap onward (bookings_after-push (before ++ first ∷ []) rest command)
    ∙ ap (λ front. onward (bookings_after (before ++ first ∷ []) rest ++ booked_after front command ∷ [])) (append_assoc before (first ∷ []) rest)

own_number : (n : ℕ) → (n == n) ≡ true
own_number n = search rules

-- what an accepted command books
booked_after-accepted : (commands : List Command) (command : Command) (after : Policy)
    → next (policy_of commands (id_of command)) command ≡ Ok after → booked_after commands command ≡ booking_of command after
booked_after-accepted commands command after accepted =
    let policy : policy_of (commands ++ command ∷ []) (id_of command) ≡ Some after =
    policy_of-push_own commands command (id_of command) (own_number (id_of command)) ∙ ap (kept (policy_of commands (id_of command))) accepted in
    ap (λ p. booked_on p command) policy

pub ledger_of-push : (commands : List Command) (command : Command) (after : Policy)
    → next (policy_of commands (id_of command)) command ≡ Ok after
    → ledger_of (commands ++ command ∷ []) ≡ added (ledger_of commands) (booking_of command after)
ledger_of-push commands command after accepted =
    ap (fold added nothing_booked) (bookings_after-push [] commands command)
    ∙ fold-append added nothing_booked (bookings_after [] commands) (booked_after commands command ∷ [])
    ∙ ap (added (ledger_of commands)) (booked_after-accepted commands command after accepted)

-- every booking adds up to 0
sum_of-booking : (command : Command) (after : Policy) → sum_of (booking_of command after) ≡ pos 0
sum_of-booking (Issue id day plan age years amount premium) after = refl
sum_of-booking (Premium id day amount) after = omega (arith, ints)
sum_of-booking (Alter id day amount premium) after = refl
sum_of-booking (Lapse id day) after = refl
sum_of-booking (Reinstate id day amount) after = omega (arith, ints)
sum_of-booking (Claim id day) after = omega (arith, ints)
sum_of-booking (Settle id day amount) after = omega (arith, ints)
sum_of-booking (Mature id day) after = at_term after.status after.amount
  where
    at_term : (status : Status) (amount : ℕ) → sum_of (booked_at_term status amount) ≡ pos 0
    at_term Matured amount = omega (arith, ints)
    at_term InForce amount = refl
    at_term Lapsed amount = refl
    at_term Claimed amount = refl
    at_term Expired amount = refl
    at_term Settled amount = refl
    at_term PaidUp amount = refl
sum_of-booking (MakePaidUp id day amount) after = refl
sum_of-booking Upgrade after = refl

sum_of-booked : (after : Option Policy) (command : Command) → sum_of (booked_on after command) ≡ pos 0
sum_of-booked None command = refl
sum_of-booked (Some after) command = sum_of-booking command after

sum_of-added : (a b : Booking) → sum_of a ≡ pos 0 → sum_of b ≡ pos 0 → sum_of (added a b) ≡ pos 0
sum_of-added a b first second = omega (arith, ints)

sum_of-after : (before rest : List Command) (start : Booking) → sum_of start ≡ pos 0
    → sum_of (fold added start (bookings_after before rest)) ≡ pos 0
sum_of-after before [] start balanced = balanced
sum_of-after before (command ∷ rest) start balanced =
    let booking = booked_after before command in
    sum_of-after (before ++ command ∷ []) rest (added start booking)
    (sum_of-added start booking balanced (sum_of-booked (policy_of (before ++ command ∷ []) (id_of command)) command))

-- an upgrade books nothing
added_nothing : (b : Booking) → added b nothing_booked ≡ b
added_nothing b = let right : (n : ℤ) → n +ℤ pos 0 ≡ n = λ n. omega (arith, ints) in rw (right b.cash, right b.premiums, right b.incurred, right b.payable) refl

booked_upgrade : (after : Option Policy) → booked_on after Upgrade ≡ nothing_booked
booked_upgrade None = refl
booked_upgrade (Some after) = refl

pub ledger_of-upgrade : (commands : List Command) → ledger_of (commands ++ Upgrade ∷ []) ≡ ledger_of commands
ledger_of-upgrade commands =
    ap (fold added nothing_booked) (bookings_after-push [] commands Upgrade)
    ∙ fold-append added nothing_booked (bookings_after [] commands) (booked_after commands Upgrade ∷ [])
    ∙ ap (added (ledger_of commands)) (booked_upgrade (policy_of (commands ++ Upgrade ∷ []) 0))
    ∙ added_nothing (ledger_of commands)

pub sum_of-ledger : (commands : List Command) → sum_of (ledger_of commands) ≡ pos 0
sum_of-ledger commands = sum_of-after [] commands nothing_booked refl

-- a policy's amount is that of an issue or of an alteration
abbrev IsModest : Option Policy → Type 0
IsModest None = Unit {0}
IsModest (Some p) = p.amount ≤ 10000000000

changed_amount : (p : Policy) (command : Command) → IsValid command → p.amount ≤ 10000000000 → (changed p command).amount ≤ 10000000000
changed_amount p (Issue id day plan age years amount premium) valid modest = modest
changed_amount p (Premium id day amount) valid modest = modest
changed_amount p (Alter id day amount premium) valid modest = valid.2.1
changed_amount p (Lapse id day) valid modest = modest
changed_amount p (Reinstate id day amount) valid modest = modest
changed_amount p (Claim id day) valid modest = modest
changed_amount p (Settle id day amount) valid modest = modest
changed_amount p (MakePaidUp id day amount) valid modest = valid.2.1
changed_amount p Upgrade valid modest = modest
changed_amount p (Mature id day) valid modest = at_term p.plan (record p { last = day }) modest
  where
    at_term : (plan : Plan) (q : Policy) → q.amount ≤ 10000000000 → (matured plan q).amount ≤ 10000000000
    at_term Term q small = small
    at_term Whole q small = small
    at_term Endowment q small = small
    at_term Limited q small = small

IsModest-decided : (p after : Policy) (refusal : Option Refusal) → p.amount ≤ 10000000000 → after.amount ≤ 10000000000
    → IsModest (kept (Some p) (decided refusal after))
IsModest-decided p after None before_in after_in = after_in
IsModest-decided p after (Some refusal) before_in after_in = before_in

IsModest-next : (p : Option Policy) (command : Command) → IsValid command → IsModest p → IsModest (kept p (next p command))
IsModest-next None command valid modest = by_kind (issue_or_other command)
  where
    by_kind : IsIssueHere command ⊎ NeedsPolicy command → IsModest (kept None (next None command))
    by_kind (inl c) =
        let here : IsValid (Issue c.id c.day c.plan c.age c.years c.amount c.premium) = subst IsValid c.is valid in
        subst (λ (this : Command). IsModest (kept None (next None this))) (sym c.is) here.amount_in.1
    by_kind (inr other) = subst (λ (decision : Result Policy Refusal). IsModest (kept None decision)) (sym other.refused) tt
IsModest-next (Some p) command valid modest =
    IsModest-decided p (changed p command) (first_refusal (checks_of p command)) modest (changed_amount p command valid modest)

IsModest-own : (commands : List Command) (id : ℕ) (p : Option Policy) → AllByRecursion IsValid commands → IsModest p
    → IsModest (fold (λ policy command. kept policy (next policy command)) p (own commands id))
IsModest-own [] id p all modest = modest
IsModest-own (command ∷ commands) id p all modest =
    let step = λ (policy : Option Policy) (c : Command). kept policy (next policy c) in
    elim (id_of command == id) as (λ b. IsModest (fold step p (cond b (command ∷ own commands id) (own commands id)))) [
      | true ↦ IsModest-own commands id (step p command) all.1 (IsModest-next p command all.0 modest)
      | false ↦ IsModest-own commands id p all.1 modest
    ]

debit_within : (most cents : ℕ) → cents ≤ most → IsWithin most (pos cents)
debit_within most cents few = (omega (arith, ints), omega (arith, ints))

credit_within : (most cents : ℕ) → cents ≤ most → IsWithin most (against cents)
credit_within most cents few = (omega (arith, ints), omega (arith, ints))

nothing_within : (most : ℕ) → AreWithin most nothing_booked
nothing_within most =
    let none : IsWithin most (pos 0) = debit_within most 0 (omega arith) in (none, none, none, none)

received_within : (most cents : ℕ) → cents ≤ most → AreWithin most (premium_received cents)
received_within most cents few =
    let none : IsWithin most (pos 0) = debit_within most 0 (omega arith) in
    (debit_within most cents few, credit_within most cents few, none, none)

incurred_within : (most cents : ℕ) → cents ≤ most → AreWithin most (benefit_incurred cents)
incurred_within most cents few =
    let none : IsWithin most (pos 0) = debit_within most 0 (omega arith) in
    (none, none, debit_within most cents few, credit_within most cents few)

paid_within : (most cents : ℕ) → cents ≤ most → AreWithin most (benefit_paid cents)
paid_within most cents few =
    let none : IsWithin most (pos 0) = debit_within most 0 (omega arith) in
    (credit_within most cents few, none, none, debit_within most cents few)

-- what a valid command books
booking_within : (command : Command) (after : Policy) → IsValid command → after.amount ≤ 10000000000
    → AreWithin 40000000000 (booking_of command after)
booking_within (Issue id day plan age years amount premium) after valid modest = nothing_within 40000000000
booking_within (Premium id day amount) after valid modest = received_within 40000000000 amount (omega (arith, valid.2.1))
booking_within (Alter id day amount premium) after valid modest = nothing_within 40000000000
booking_within (Lapse id day) after valid modest = nothing_within 40000000000
booking_within (Reinstate id day amount) after valid modest = received_within 40000000000 amount valid.2.1
booking_within (Claim id day) after valid modest = incurred_within 40000000000 after.amount (omega (arith, modest))
booking_within (Settle id day amount) after valid modest = paid_within 40000000000 amount (omega (arith, valid.2.1))
booking_within (Mature id day) after valid modest = at_term after.status after.amount modest
  where
    at_term : (status : Status) (amount : ℕ) → amount ≤ 10000000000 → AreWithin 40000000000 (booked_at_term status amount)
    at_term Matured amount few = incurred_within 40000000000 amount (omega (arith, few))
    at_term InForce amount few = nothing_within 40000000000
    at_term Lapsed amount few = nothing_within 40000000000
    at_term Claimed amount few = nothing_within 40000000000
    at_term Expired amount few = nothing_within 40000000000
    at_term Settled amount few = nothing_within 40000000000
    at_term PaidUp amount few = nothing_within 40000000000
booking_within (MakePaidUp id day amount) after valid modest = nothing_within 40000000000
booking_within Upgrade after valid modest = nothing_within 40000000000

booked_within : (after : Option Policy) (command : Command) → IsValid command → IsModest after
    → AreWithin 40000000000 (booked_on after command)
booked_within None command valid modest = nothing_within 40000000000
booked_within (Some after) command valid modest = booking_within command after valid modest

IsWithin-added : (m n : ℕ) (a b : ℤ) → IsWithin m a → IsWithin n b → IsWithin (m + n) (a +ℤ b)
IsWithin-added m n a b first second =
    (omega (arith, ints, first.0, second.0), omega (arith, ints, first.1, second.1))

AreWithin-added : (m n : ℕ) (a b : Booking) → AreWithin m a → AreWithin n b → AreWithin (m + n) (added a b)
AreWithin-added m n a b first second =
    (IsWithin-added m n a.cash b.cash first.0 second.0, IsWithin-added m n a.premiums b.premiums first.1 second.1, IsWithin-added m n a.incurred b.incurred first.2 second.2, IsWithin-added m n a.payable b.payable first.3 second.3)

-- and one more booking
pub within_added : (position : ℕ) (b : Booking) (command : Command) (after : Policy) → IsValid command → after.amount ≤ 10000000000
    → AreWithin (40000000000 * position) b → AreWithin (40000000000 * (position + 1)) (added b (booking_of command after))
within_added position b command after valid modest within =
    let one : 40000000000 * position + 40000000000 ≡ 40000000000 * (position + 1) = omega arith in
    subst (λ n. AreWithin n (added b (booking_of command after))) one
    (AreWithin-added (40000000000 * position) 40000000000 b (booking_of command after) within (booking_within command after valid modest))

all-push : (P : Command → Type 0) (commands : List Command) (command : Command) → AllByRecursion P commands → P command
    → AllByRecursion P (commands ++ command ∷ [])
all-push P [] command all last = (last, tt)
all-push P (first ∷ rest) command all last = (all.0, all-push P rest command all.1 last)

one_more : (most commands : ℕ) → (most + 40000000000) + 40000000000 * commands ≡ most + 40000000000 * suc commands
one_more most commands = omega arith

AreWithin-after : (most : ℕ) (before rest : List Command) (start : Booking) → AllByRecursion IsValid before
    → AllByRecursion IsValid rest → AreWithin most start
    → AreWithin (most + 40000000000 * length rest) (fold added start (bookings_after before rest))
AreWithin-after most before [] start valid_before valid_rest within =
    let none : most ≡ most + 0 = omega arith in subst (λ n. AreWithin n start) none within
AreWithin-after most before (command ∷ rest) start valid_before valid_rest within =
    let front = before ++ command ∷ [] in
    let valid_front : AllByRecursion IsValid front = all-push IsValid before command valid_before valid_rest.0 in
    let booked : AreWithin 40000000000 (booked_after before command) =
    booked_within (policy_of front (id_of command)) command valid_rest.0 (IsModest-own front (id_of command) None valid_front tt) in
    let later = AreWithin-after (most + 40000000000) front rest (added start (booked_after before command)) valid_front valid_rest.1
    (AreWithin-added most 40000000000 start (booked_after before command) within booked) in
    subst (λ n. AreWithin n (fold added start (bookings_after before (command ∷ rest)))) (one_more most (length rest)) later

pub AreWithin-ledger : (commands : List Command) → AllByRecursion IsValid commands
    → AreWithin (40000000000 * length commands) (ledger_of commands)
AreWithin-ledger commands valid =
    let none : 0 + 40000000000 * length commands ≡ 40000000000 * length commands = omega arith in
    subst (λ n. AreWithin n (ledger_of commands)) none (AreWithin-after 0 [] commands nothing_booked tt valid (nothing_within 0))

-- more than is needed
pub AreWithin-wider : (m n : ℕ) (b : Booking) → m ≤ n → AreWithin m b → AreWithin n b
AreWithin-wider m n b wide within =
    let wider : (balance : ℤ) → IsWithin m balance → IsWithin n balance =
    λ balance close. (omega (arith, ints, close.0), omega (arith, ints, close.1)) in
    (wider b.cash within.0, wider b.premiums within.1, wider b.incurred within.2, wider b.payable within.3)

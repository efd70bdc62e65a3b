-- What is payable and what is outstanding change together
use Rattle.schedule_laws.proofs.Names.{◌≡◌, ℕ, ◌+◌, ◌-◌, ◌≤◌, ◌==◌, nat_lt, Bool, true, false, not, if◌then◌else◌, List, [], ◌∷◌, ◌++◌, ℤ, pos, ◌+ℤ◌, ◌-ℤ◌, refl, sym, ap, ◌∙◌, subst, append_assoc, append-nil, None, Some, Option, Ok, eqb-true, ◌⊎◌, inl, inr, arith, book, kept, policy_of, issue_id, judge, IsAccepted, IsAcceptedAfter}
use Rattle.std.proofs.lemmas.Int.{ints}
use Rattle.std.proofs.lemmas.List.Sums.{sum_by-append, sum_by-cons, sum_by_push}
use Rattle.policy_types.specs.declared.command.Command.{Command}
use Rattle.policy_types.specs.declared.command.Command.TheVariants.{Issue, Premium, Alter, Lapse, Reinstate, Claim, Settle, Mature, PaidUp as MakePaidUp, Upgrade}
use Rattle.policy_types.specs.declared.command.Plan.{Plan}
use Rattle.policy_types.specs.declared.command.Plan.TheVariants.{Term, Whole, Endowment, Limited}
use Rattle.policy_types.specs.declared.policy.Policy.{Policy}
use Rattle.policy_types.specs.declared.policy.Status.{Status}
use Rattle.policy_types.specs.declared.policy.Status.TheVariants.{InForce, Lapsed, Claimed, Matured, Expired, Settled, PaidUp}
use Rattle.policy_types.specs.declared.refusal.Refusal.{Refusal}
use Rattle.policy_types.specs.declared.refusal.Refusal.TheVariants.{Taken}
use Rattle.policy_types.specs.Accounts.{Booking, against, booking_of}
use Rattle.policy_types.specs.Valid.{id_of}
use Rattle.policy_machine.specs.Rules.{next, changed, matured, checks_of, first_refusal, issued, awaits_settlement}
use Rattle.policy_machine.proofs.Parts.{is_insured}
use Rattle.policy_machine.proofs.Parts.{is_in_force, is_lapsed}
use Rattle.policy_machine.proofs.Parts.{decided}
use Rattle.policy_machine.specs.Accounts.{ledger_of}
use Rattle.policy_machine.proofs.AcceptedLemmas.{IsIssueHere, NeedsPolicy, issue_or_other}
use Rattle.policy_machine.proofs.BookLemmas.{policy_of-push_own, policy_of-push_other, policy_of-upgrade, book-upgrade, IsAccepted-push}
use Rattle.policy_machine.proofs.BookGrowth.{book-push_issue, book-push_change}
use Rattle.policy_machine.proofs.JudgeLemmas.{accepted_next}
use Rattle.policy_machine.proofs.LedgerLemmas.{ledger_of-push, ledger_of-upgrade}
use Rattle.schedule_laws.specs.Balances.{outstanding_in}

-- a policy that awaits no settlement has nothing outstanding
abbrev Owes : Policy → Type 0
Owes p = awaits_settlement p.status ≡ false → p.outstanding ≡ 0

abbrev OwesIf : Option Policy → Type 0
OwesIf None = Unit {0}
OwesIf (Some p) = Owes p

-- a check that doesn't refuse, and those after it
passes : (applies : Bool) (refusal : Refusal) (rest : Option Refusal) → (if applies then Some refusal else rest) ≡ None
    → (applies ≡ false) × (rest ≡ None)
passes true refusal rest none = grind arith
passes false refusal rest none = (refl, none)

decided_ok : (refusal : Option Refusal) (changed_policy after : Policy) → decided refusal changed_policy ≡ Ok after
    → (refusal ≡ None) × (changed_policy ≡ after)
decided_ok None changed_policy after ok = (refl, grind arith)
decided_ok (Some refusal) changed_policy after ok = grind arith

quiet_in_force : (status : Status) → not (is_in_force status) ≡ false → awaits_settlement status ≡ false
quiet_in_force InForce in_force = refl
quiet_in_force Lapsed in_force = grind arith
quiet_in_force Claimed in_force = grind arith
quiet_in_force Matured in_force = grind arith
quiet_in_force Expired in_force = grind arith
quiet_in_force Settled in_force = grind arith
quiet_in_force PaidUp in_force = refl

quiet_insured : (status : Status) → not (is_insured status) ≡ false → awaits_settlement status ≡ false
quiet_insured InForce insured = refl
quiet_insured Lapsed insured = grind arith
quiet_insured Claimed insured = grind arith
quiet_insured Matured insured = grind arith
quiet_insured Expired insured = grind arith
quiet_insured Settled insured = grind arith
quiet_insured PaidUp insured = refl

quiet_lapsed : (status : Status) → not (is_lapsed status) ≡ false → awaits_settlement status ≡ false
quiet_lapsed Lapsed lapsed = refl
quiet_lapsed InForce lapsed = grind arith
quiet_lapsed Claimed lapsed = grind arith
quiet_lapsed Matured lapsed = grind arith
quiet_lapsed Expired lapsed = grind arith
quiet_lapsed Settled lapsed = grind arith
quiet_lapsed PaidUp lapsed = grind arith

-- what a command books as payable is by how much less is outstanding
record Moves (command : Command) (before after : Policy) : Type 0 where
  pub booked : (booking_of command after).payable ≡ pos before.outstanding -ℤ pos after.outstanding
  pub owes : Owes after

nothing_moved : (cents : ℕ) → pos 0 ≡ pos cents -ℤ pos cents
nothing_moved cents = omega (arith, ints)

incurred : (was cents : ℕ) → was ≡ 0 → against cents ≡ pos was -ℤ pos cents
incurred was cents none = omega (arith, ints)

paid_out : (was cents : ℕ) → cents ≤ was → pos cents ≡ pos was -ℤ pos (was - cents)
paid_out was cents enough = omega (arith, ints)

settled_owes : (was cents : ℕ) (status : Status) → cents ≤ was → not (awaits_settlement status) ≡ false
    → awaits_settlement (if cents == was then Settled else status) ≡ false → was - cents ≡ 0
settled_owes was cents status enough awaits quiet = by_all (cents == was) refl quiet
  where
    by_all : (all : Bool) → (cents == was) ≡ all → awaits_settlement (if all then Settled else status) ≡ false → was - cents ≡ 0
    by_all true same quiet_now = let equal : cents ≡ was = eqb-true cents was same in omega arith
    by_all false other quiet_now = absurd (both (awaits_settlement status) awaits quiet_now)
      where
        both : (b : Bool) → not b ≡ false → b ≡ false → ⊥
        both true a q = grind arith
        both false a q = grind arith

at_term : (id : ℕ) (day : ℤ) (plan : Plan) (p : Policy) → p.outstanding ≡ 0 → Moves (Mature id day) p (matured plan p)
at_term id day Term p none = record { booked = incurred p.outstanding 0 none; owes = λ quiet. refl }
at_term id day Whole p none = record { booked = incurred p.outstanding p.amount none; owes = λ quiet. grind arith }
at_term id day Endowment p none = record { booked = incurred p.outstanding p.amount none; owes = λ quiet. grind arith }
at_term id day Limited p none = record { booked = incurred p.outstanding p.amount none; owes = λ quiet. grind arith }

not_above : (was cents : ℕ) → nat_lt was cents ≡ false → cents ≤ was
not_above was cents not_less = grind arith

never : true ≡ false → ⊥
never same = grind arith

moves : (command : Command) (p : Policy) → Owes p → first_refusal (checks_of p command) ≡ None → Moves command p (changed p command)
moves (Issue id day plan age years amount premium) p owes accepted = grind arith
moves (Premium id day amount) p owes accepted = record { booked = nothing_moved p.outstanding; owes = owes }
moves (Alter id day amount premium) p owes accepted = record { booked = nothing_moved p.outstanding; owes = owes }
moves (Lapse id day) p owes accepted =
    let from_second = (passes _ _ _ accepted).1 in
    let in_force = (passes (not (is_in_force p.status)) _ _ from_second).0 in
    record { booked = nothing_moved p.outstanding; owes = λ quiet. owes (quiet_in_force p.status in_force) }
moves (Reinstate id day amount) p owes accepted =
    let from_second = (passes _ _ _ accepted).1 in
    let lapsed = (passes (not (is_lapsed p.status)) _ _ from_second).0 in
    record { booked = nothing_moved p.outstanding; owes = λ quiet. owes (quiet_lapsed p.status lapsed) }
moves (Claim id day) p owes accepted =
    let from_second = (passes _ _ _ accepted).1 in
    let insured = (passes (not (is_insured p.status)) _ _ from_second).0 in
    record { booked = incurred p.outstanding p.amount (owes (quiet_insured p.status insured)); owes = λ quiet. absurd (never quiet) }
moves (Settle id day amount) p owes accepted =
    let from_second = (passes _ _ _ accepted).1 in
    let awaits = passes (not (awaits_settlement p.status)) _ _ from_second in
    let enough = not_above p.outstanding amount (passes (nat_lt p.outstanding amount) _ _ awaits.1).0 in
    record { booked = paid_out p.outstanding amount enough; owes = settled_owes p.outstanding amount p.status enough awaits.0 }
moves (Mature id day) p owes accepted =
    let from_second = (passes _ _ _ accepted).1 in
    let insured = (passes (not (is_insured p.status)) _ _ from_second).0 in
    let ended = at_term id day p.plan (record p { last = day }) (owes (quiet_insured p.status insured)) in
    record { booked = ended.booked; owes = ended.owes }
moves (MakePaidUp id day amount) p owes accepted =
    let from_second = (passes _ _ _ accepted).1 in
    let in_force = (passes (not (is_in_force p.status)) _ _ from_second).0 in
    record { booked = nothing_moved p.outstanding; owes = λ quiet. owes (quiet_in_force p.status in_force) }
moves Upgrade p owes accepted = grind arith

-- an accepted command on no policy is an issue
record Fresh (command : Command) (after : Policy) : Type 0 where
  pub issue : issue_id command ≡ Some (id_of command)
  pub booked : (booking_of command after).payable ≡ pos 0
  pub none : after.outstanding ≡ 0

fresh : (command : Command) (after : Policy) → next None command ≡ Ok after → Fresh command after
fresh command after ok = by_kind (issue_or_other command)
  where
    by_kind : IsIssueHere command ⊎ NeedsPolicy command → Fresh command after
    by_kind (inl c) =
        let made : next None command ≡ Ok (issued c.id c.day c.plan c.age c.years c.amount c.premium) = ap (next None) c.is in
        let same : issued c.id c.day c.plan c.age c.years c.amount c.premium ≡ after = grind arith in
        record {
          issue = ap issue_id c.is ∙ ap Some (sym (ap id_of c.is));
          booked = ap (λ (this : Command). (booking_of this after).payable) c.is;
          none = ap (λ (p : Policy). p.outstanding) (sym same);
        }
    by_kind (inr other) = let refused = other.refused in grind arith

no_issue : (command : Command) (p : Policy) → first_refusal (checks_of p command) ≡ None → issue_id command ≡ None
no_issue command p accepted = by_kind (issue_or_other command)
  where
    by_kind : IsIssueHere command ⊎ NeedsPolicy command → issue_id command ≡ None
    by_kind (inl c) =
        let refused : first_refusal (checks_of p command) ≡ Some Taken = ap (λ (this : Command). first_refusal (checks_of p this)) c.is in
        grind arith
    by_kind (inr other) = other.none

-- what one more accepted command leaves
record Balanced (commands : List Command) : Type 0 where
  pub payable : (ledger_of commands).payable ≡ against (outstanding_in (book commands))
  pub owes : (id : ℕ) → OwesIf (policy_of commands id)

-- the sum with one policy among others
outstanding_around : (front back : List Policy) (p : Policy)
    → outstanding_in (front ++ p ∷ back) ≡ outstanding_in front + (p.outstanding + outstanding_in back)
outstanding_around front back p =
    sum_by-append (λ q. q.outstanding) front (p ∷ back)
    ∙ ap (λ n. outstanding_in front + n) (sum_by-cons (λ q. q.outstanding) p back)

against_moved : (front back was now : ℕ) → against (front + (was + back)) +ℤ (pos was -ℤ pos now) ≡ against (front + (now + back))
against_moved front back was now = omega (arith, ints)

owes_more : (commands : List Command) (command : Command) (after : Policy) → ((id : ℕ) → OwesIf (policy_of commands id))
    → next (policy_of commands (id_of command)) command ≡ Ok after → Owes after
    → (id : ℕ) → OwesIf (policy_of (commands ++ command ∷ []) id)
owes_more commands command after owes ok owes_after id = by_id (id_of command == id) refl
  where
    by_id : (b : Bool) → (id_of command == id) ≡ b → OwesIf (policy_of (commands ++ command ∷ []) id)
    by_id false other = subst OwesIf (sym (policy_of-push_other commands command id other)) (owes id)
    by_id true same =
        let own : id_of command ≡ id = eqb-true (id_of command) id same in
        let accepted : next (policy_of commands id) command ≡ Ok after =
        ap (λ n. next (policy_of commands n) command) (sym own) ∙ ok in
        subst OwesIf (sym (policy_of-push_own commands command id same ∙ ap (kept (policy_of commands id)) accepted)) owes_after

Balanced-push : (commands : List Command) (command : Command) → IsAccepted commands → Balanced commands
    → (after : Policy) → next (policy_of commands (id_of command)) command ≡ Ok after → Balanced (commands ++ command ∷ [])
Balanced-push commands command accepted balanced after made = by_policy (policy_of commands id) refl
  where
    id : ℕ
    id = id_of command

    more : List Command
    more = commands ++ command ∷ []

    by_policy : (o : Option Policy) → policy_of commands id ≡ o → Balanced more
    by_policy None none =
        let new = fresh command after (ap (λ p. next p command) (sym none) ∙ made) in
        let ledger = ap (λ (b : Booking). b.payable) (ledger_of-push commands command after made) in
        let there : outstanding_in (book more) ≡ outstanding_in (book commands) + after.outstanding =
        ap outstanding_in (book-push_issue commands command id after new.issue made)
        ∙ sum_by_push (λ q. q.outstanding) (book commands) after in
        record {
          payable =
              ledger ∙ ap (λ z. z +ℤ (booking_of command after).payable) balanced.payable
              ∙ ap (λ z. against (outstanding_in (book commands)) +ℤ z) new.booked
              ∙ no_change (outstanding_in (book commands)) after.outstanding new.none
              ∙ ap against (sym there);
          owes = owes_more commands command after balanced.owes made (λ quiet. new.none);
        }
      where
        no_change : (was more_cents : ℕ) → more_cents ≡ 0 → against was +ℤ pos 0 ≡ against (was + more_cents)
        no_change was more_cents none_more = omega (arith, ints)
    by_policy (Some before) found =
        let ok : next (Some before) command ≡ Ok after = ap (λ p. next p command) (sym found) ∙ made in
        let parts = decided_ok (first_refusal (checks_of before command)) (changed before command) after ok in
        let moved : Moves command before after =
        subst (Moves command before) parts.1 (moves command before (subst OwesIf found (balanced.owes id)) parts.0) in
        let change = book-push_change commands command before after accepted (no_issue command before parts.0) found ok in
        let ledger = ap (λ (b : Booking). b.payable) (ledger_of-push commands command after made) in
        let was : outstanding_in (book commands) ≡ outstanding_in change.front + (before.outstanding + outstanding_in change.back) =
        ap outstanding_in change.was ∙ outstanding_around change.front change.back before in
        let now : outstanding_in (book more) ≡ outstanding_in change.front + (after.outstanding + outstanding_in change.back) =
        ap outstanding_in change.now ∙ outstanding_around change.front change.back after in
        record {
          payable =
              ledger ∙ ap (λ z. z +ℤ (booking_of command after).payable) (balanced.payable ∙ ap against was)
              ∙ ap (λ z. against (outstanding_in change.front + (before.outstanding + outstanding_in change.back)) +ℤ z) moved.booked
              ∙ against_moved (outstanding_in change.front) (outstanding_in change.back) before.outstanding after.outstanding
              ∙ ap against (sym now);
          owes = owes_more commands command after balanced.owes made moved.owes;
        }

-- an upgrade leaves all of it
Balanced-upgrade : (commands : List Command) → Balanced commands → Balanced (commands ++ Upgrade ∷ [])
Balanced-upgrade commands balanced = record {
  payable =
      ap (λ (b : Booking). b.payable) (ledger_of-upgrade commands) ∙ balanced.payable
      ∙ ap (λ policies. against (outstanding_in policies)) (sym (book-upgrade commands));
  owes = λ id. subst OwesIf (sym (policy_of-upgrade commands id)) (balanced.owes id);
}

Balanced-more : (commands : List Command) (command : Command) → IsAccepted commands → Balanced commands → judge commands command ≡ None
    → Balanced (commands ++ command ∷ [])
Balanced-more commands command accepted balanced ok = by_kind (accepted_next commands command ok)
  where
    by_kind : (command ≡ Upgrade) ⊎ ((after : Policy) × (next (policy_of commands (id_of command)) command ≡ Ok after))
        → Balanced (commands ++ command ∷ [])
    by_kind (inl upgrade) = subst (λ this. Balanced (commands ++ this ∷ [])) (sym upgrade) (Balanced-upgrade commands balanced)
    by_kind (inr made) = Balanced-push commands command accepted balanced made.0 made.1

balanced_after : (before rest : List Command) → IsAccepted before → Balanced before → IsAcceptedAfter before rest → Balanced (before ++ rest)
balanced_after before [] accepted balanced more = subst Balanced (sym (append-nil before)) balanced
balanced_after before (command ∷ rest) accepted balanced more =
    subst Balanced (append_assoc before (command ∷ []) rest)
    (balanced_after (before ++ command ∷ []) rest (IsAccepted-push before command accepted more.0)
    (Balanced-more before command accepted balanced more.0) more.1)

pub payable-ledger : (commands : List Command) → IsAccepted commands
    → (ledger_of commands).payable ≡ against (outstanding_in (book commands))
payable-ledger commands accepted = (balanced_after [] commands tt (record { payable = refl; owes = λ id. tt }) accepted).payable

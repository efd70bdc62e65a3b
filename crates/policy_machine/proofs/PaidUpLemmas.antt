-- What a policy covers never rises
use Rattle.policy_machine.proofs.Names.{◌≡◌, ℕ, ◌≤◌, Bool, true, false, ◌==◌, if◌then◌else◌, List, [], ◌∷◌, ◌++◌, refl, sym, ap, ◌∙◌, subst, Some, Option, Ok, Err, Result, arith, fold, Command, Issue, Premium, Alter, Lapse, Reinstate, Claim, Settle, Mature, MakePaidUp, Upgrade, Plan, Term, Whole, Endowment, Limited, Policy, Status, Refusal, changed, checks_of, matured, is_in_force, is_lapsed, is_paid_up, next, own, kept, policy_of}
use Rattle.std.proofs.lemmas.Bool.Decides.{nat_tests}
use Rattle.policy_types.specs.declared.policy.Status.TheVariants.{InForce, Lapsed, Claimed, Matured, Expired, Settled, PaidUp}
use Rattle.policy_machine.specs.PaidUp.{StaysPaidUp}
use Rattle.policy_machine.proofs.AcceptedLemmas.{accepted}
use Rattle.policy_machine.proofs.BookGrowth.{policy_of-append}

matured_amount : (plan : Plan) (p : Policy) → (matured plan p).amount ≡ p.amount
matured_amount Term p = refl
matured_amount Whole p = refl
matured_amount Endowment p = refl
matured_amount Limited p = refl

amount_after : (p after : Policy) (command : Command) → next (Some p) command ≡ Ok after → (changed p command).amount ≤ p.amount
amount_after p after (Issue id day plan age years amount premium) e = omega arith
amount_after p after (Premium id day amount) e = omega arith
amount_after p after (Alter id day amount premium) e =
    let fact = accepted (checks_of p (Alter id day amount premium)) (changed p (Alter id day amount premium)) after e in
    let reduced = fact.0.1.1.1.1.0 in grind (arith, nat_tests)
amount_after p after (Lapse id day) e = omega arith
amount_after p after (Reinstate id day amount) e = omega arith
amount_after p after (Claim id day) e = omega arith
amount_after p after (Settle id day amount) e = omega arith
amount_after p after (Mature id day) e = omega (arith, matured_amount p.plan (record p { last = day }))
amount_after p after (MakePaidUp id day amount) e =
    let fact = accepted (checks_of p (MakePaidUp id day amount)) (changed p (MakePaidUp id day amount)) after e in
    let reduced = fact.0.1.1.1.1.1.0 in grind (arith, nat_tests)
amount_after p after Upgrade e = omega arith

-- a paid-up policy, or what became of one
pub record HasPaidUp (amount paid : ℕ) (p : Policy) : Type 0 where
  pub same_amount : p.amount ≡ amount
  pub same_paid : p.paid ≡ paid
  pub not_in_force : is_in_force p.status ≡ false
  pub not_lapsed : is_lapsed p.status ≡ false

paid_up_now : (p : Policy) (status : Status) → p.status ≡ status → is_paid_up status ≡ true → HasPaidUp p.amount p.paid p
paid_up_now p PaidUp same e = record {
  same_amount = refl;
  same_paid = refl;
  not_in_force = ap is_in_force same;
  not_lapsed = ap is_lapsed same;
}
paid_up_now p InForce same e = absurd (cc)
paid_up_now p Lapsed same e = absurd (cc)
paid_up_now p Claimed same e = absurd (cc)
paid_up_now p Matured same e = absurd (cc)
paid_up_now p Expired same e = absurd (cc)
paid_up_now p Settled same e = absurd (cc)

matured_still : (amount paid : ℕ) (plan : Plan) (p : Policy) → p.amount ≡ amount → p.paid ≡ paid → HasPaidUp amount paid (matured plan p)
matured_still amount paid Term p a n = record { same_amount = a; same_paid = n; not_in_force = refl; not_lapsed = refl }
matured_still amount paid Whole p a n = record { same_amount = a; same_paid = n; not_in_force = refl; not_lapsed = refl }
matured_still amount paid Endowment p a n = record { same_amount = a; same_paid = n; not_in_force = refl; not_lapsed = refl }
matured_still amount paid Limited p a n = record { same_amount = a; same_paid = n; not_in_force = refl; not_lapsed = refl }

changed_still : (amount paid : ℕ) (p after : Policy) (command : Command) → HasPaidUp amount paid p → next (Some p) command ≡ Ok after
    → HasPaidUp amount paid (changed p command)
changed_still amount paid p after (Issue id day plan age years sum premium) has e = has
changed_still amount paid p after (Premium id day sum) has e =
    let fact = accepted (checks_of p (Premium id day sum)) (changed p (Premium id day sum)) after e in
    let wrong = fact.0.1.0 in let not_in_force = has.not_in_force in absurd (cc)
changed_still amount paid p after (Alter id day sum premium) has e =
    let fact = accepted (checks_of p (Alter id day sum premium)) (changed p (Alter id day sum premium)) after e in
    let wrong = fact.0.1.0 in let not_in_force = has.not_in_force in absurd (cc)
changed_still amount paid p after (Lapse id day) has e =
    let fact = accepted (checks_of p (Lapse id day)) (changed p (Lapse id day)) after e in
    let wrong = fact.0.1.0 in let not_in_force = has.not_in_force in absurd (cc)
changed_still amount paid p after (Reinstate id day sum) has e =
    let fact = accepted (checks_of p (Reinstate id day sum)) (changed p (Reinstate id day sum)) after e in
    let wrong = fact.0.1.0 in let not_lapsed = has.not_lapsed in absurd (cc)
changed_still amount paid p after (Claim id day) has e =
    record { same_amount = has.same_amount; same_paid = has.same_paid; not_in_force = refl; not_lapsed = refl }
changed_still amount paid p after (Settle id day sum) has e =
    let status = by_rest (sum == p.outstanding) in
    record { same_amount = has.same_amount; same_paid = has.same_paid; not_in_force = status.0; not_lapsed = status.1 }
  where
    by_rest : (b : Bool) → (is_in_force (if b then Settled else p.status) ≡ false) × (is_lapsed (if b then Settled else p.status) ≡ false)
    by_rest true = (refl, refl)
    by_rest false = (has.not_in_force, has.not_lapsed)
changed_still amount paid p after (Mature id day) has e =
    matured_still amount paid p.plan (record p { last = day }) has.same_amount has.same_paid
changed_still amount paid p after (MakePaidUp id day sum) has e =
    let fact = accepted (checks_of p (MakePaidUp id day sum)) (changed p (MakePaidUp id day sum)) after e in
    let wrong = fact.0.1.0 in let not_in_force = has.not_in_force in absurd (cc)
changed_still amount paid p after Upgrade has e = has

abbrev step : Option Policy → Command → Option Policy
step policy command = kept policy (next policy command)

-- what each accepted command keeps of a policy, all commands keep
kept_by_all : (P : Policy → Type 0) → ((p after : Policy) (command : Command) → P p → next (Some p) command ≡ Ok after → P after)
    → (commands : List Command) (p q : Policy) → P p → fold step (Some p) commands ≡ Some q → P q
kept_by_all P each [] p q here e = let same : p ≡ q = cc in subst P same here
kept_by_all P each (command ∷ commands) p q here e = by_decision (next (Some p) command) refl (kept_by_all P each commands) e
  where
    by_decision : (decision : Result Policy Refusal) → next (Some p) command ≡ decision
        → ((r s : Policy) → P r → fold step (Some r) commands ≡ Some s → P s)
        → fold step (kept (Some p) decision) commands ≡ Some q → P q
    by_decision (Ok after) made onward found = onward after q (each p after command here made) found
    by_decision (Err refusal) made onward found = onward p q here found

later : (before rest : List Command) (id : ℕ) (p q : Policy) → policy_of before id ≡ Some p → policy_of (before ++ rest) id ≡ Some q
    → fold step (Some p) (own rest id) ≡ Some q
later before rest id p q was is = ap (λ policy. fold step policy (own rest id)) (sym was) ∙ sym (policy_of-append before rest id) ∙ is

pub amount_never_rises : (before rest : List Command) (id : ℕ) (p q : Policy) → policy_of before id ≡ Some p
    → policy_of (before ++ rest) id ≡ Some q → q.amount ≤ p.amount
amount_never_rises before rest id p q was is =
    kept_by_all (λ r. r.amount ≤ p.amount) each (own rest id) p q (omega arith) (later before rest id p q was is)
  where
    each : (r after : Policy) (command : Command) → r.amount ≤ p.amount → next (Some r) command ≡ Ok after → after.amount ≤ p.amount
    each r after command few e =
        let fact = accepted (checks_of r command) (changed r command) after e in
        let made : (changed r command).amount ≡ after.amount = ap (λ s. s.amount) fact.1 in
        omega (arith, few, made, amount_after r after command e)

pub paid_up_stays : (before rest : List Command) (id : ℕ) (p q : Policy) → policy_of before id ≡ Some p
    → policy_of (before ++ rest) id ≡ Some q → is_paid_up p.status ≡ true → StaysPaidUp p q
paid_up_stays before rest id p q was is paid_up =
    let has = kept_by_all (HasPaidUp p.amount p.paid) each (own rest id) p q (paid_up_now p p.status refl paid_up) (later before rest id p q was is) in
    record {
      same_amount = has.same_amount;
      same_paid = has.same_paid;
      not_in_force_again = has.not_in_force;
      not_lapsed_again = has.not_lapsed;
    }
  where
    each : (r after : Policy) (command : Command) → HasPaidUp p.amount p.paid r → next (Some r) command ≡ Ok after
        → HasPaidUp p.amount p.paid after
    each r after command has e =
        let fact = accepted (checks_of r command) (changed r command) after e in
        subst (HasPaidUp p.amount p.paid) fact.1 (changed_still p.amount p.paid r after command has e)

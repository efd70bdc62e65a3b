-- Accepted commands keep a policy sound
use Rattle.policy_machine.proofs.Names.{◌≡◌, ℕ, ◌-◌, ◌<◌, ◌≤◌, ◌↔◌, ◌⊎◌, inl, inr, sym, Result, Bool, true, false, not, ◌==◌, if◌then◌else◌, refl, subst, arith, ℤ, IsTrue, Some, None, Option, Ok, IfOk, IfSome, ints, Command, Issue, Premium, Alter, Lapse, Reinstate, Claim, Settle, Mature, MakePaidUp, Upgrade, Plan, Term, Whole, Endowment, Limited, Policy, Status, IsIssue, IsAmount, IsCommandDay, IsValid, IsSound, payments_of, checks_of, changed, is_in_force, is_lapsed, awaits_settlement, matured, issued, next, Refusal}
use Rattle.std.proofs.lemmas.Bool.{cases_lt, eqb-false, eqb-true}
use Rattle.std.proofs.lemmas.Bool.Decides.{nat_tests}
use Rattle.policy_types.specs.declared.policy.Status.TheVariants.{InForce, Lapsed, Claimed, Matured, Expired, Settled, PaidUp}
use Rattle.policy_machine.proofs.AcceptedLemmas.{IsIssueHere, NeedsPolicy, issue_or_other, accepted, if_ok}
use Rattle.policy_machine.proofs.MissedLemmas.{premiums_missed-le}

-- a policy in force, or a lapsed one, has nothing outstanding
in_force_idle : (status : Status) → not (is_in_force status) ≡ false → awaits_settlement status ≡ false
in_force_idle InForce e = refl
in_force_idle Lapsed e = refl
in_force_idle Claimed e = absurd (cc)
in_force_idle Matured e = absurd (cc)
in_force_idle Expired e = refl
in_force_idle Settled e = refl
in_force_idle PaidUp e = refl

lapsed_idle : (status : Status) → not (is_lapsed status) ≡ false → awaits_settlement status ≡ false
lapsed_idle InForce e = refl
lapsed_idle Lapsed e = refl
lapsed_idle Claimed e = absurd (cc)
lapsed_idle Matured e = absurd (cc)
lapsed_idle Expired e = refl
lapsed_idle Settled e = refl
lapsed_idle PaidUp e = refl

nothing_outstanding : (p : Policy) → IsSound p → awaits_settlement p.status ≡ false → p.outstanding ≡ 0
nothing_outstanding p sound idle = elim (cases_lt 0 p.outstanding) [
  | inl some ↦ absurd (let awaits = sound.outstanding_when.0 some in cc)
  | inr none ↦ omega arith
]

-- and no benefit is due then
idle_when : (status : Status) (cents : ℕ) → awaits_settlement status ≡ false → cents ≡ 0 → (0 < cents) ↔ IsTrue (awaits_settlement status)
idle_when status cents idle none = (λ some. absurd (omega arith), λ awaits. absurd (cc))

sound_issue : (id age years amount premium : ℕ) (day : ℤ) (plan : Plan) → IsIssue id day plan age years amount premium
    → IsSound (issued id day plan age years amount premium)
sound_issue id age years amount premium day plan valid = record {
  issue_in = valid;
  paid_in = omega arith;
  last_after = omega (arith, ints);
  last_in = valid.day_in;
  outstanding_in = omega arith;
  outstanding_when = idle_when InForce 0 refl refl;
}

sound_premium : (p after : Policy) (id amount : ℕ) (day : ℤ) → IsSound p → IsCommandDay day
    → next (Some p) (Premium id day amount) ≡ Ok after → IsSound after
sound_premium p after id amount day sound day_in e =
    let fact = accepted (checks_of p (Premium id day amount)) (changed p (Premium id day amount)) after e in
    let since = fact.0.0 in
    let some_due = fact.0.1.1.1.0 in
    subst IsSound fact.1 (record {
      issue_in = sound.issue_in;
      paid_in = omega (arith, sound.paid_in, eqb-false p.paid (payments_of p) some_due);
      last_after = grind (arith, ints);
      last_in = day_in;
      outstanding_in = sound.outstanding_in;
      outstanding_when = sound.outstanding_when;
    })

sound_alter : (p after : Policy) (id amount premium : ℕ) (day : ℤ) → IsSound p → IsCommandDay day → IsAmount amount → IsAmount premium
    → next (Some p) (Alter id day amount premium) ≡ Ok after → IsSound after
sound_alter p after id amount premium day sound day_in amount_in premium_in e =
    let fact = accepted (checks_of p (Alter id day amount premium)) (changed p (Alter id day amount premium)) after e in
    let since = fact.0.0 in
    let in_force = fact.0.1.0 in
    let none = nothing_outstanding p sound (in_force_idle p.status in_force) in
    let i = sound.issue_in in
    subst IsSound fact.1 (record {
      issue_in = record { id_in = i.id_in; day_in = i.day_in; age_in = i.age_in; years_in = i.years_in; amount_in = amount_in; premium_in = premium_in };
      paid_in = sound.paid_in;
      last_after = grind (arith, ints);
      last_in = day_in;
      outstanding_in = omega arith;
      outstanding_when = sound.outstanding_when;
    })

sound_lapse : (p after : Policy) (id : ℕ) (day : ℤ) → IsSound p → IsCommandDay day
    → next (Some p) (Lapse id day) ≡ Ok after → IsSound after
sound_lapse p after id day sound day_in e =
    let fact = accepted (checks_of p (Lapse id day)) (changed p (Lapse id day)) after e in
    let since = fact.0.0 in
    let in_force = fact.0.1.0 in
    subst IsSound fact.1 (record {
      issue_in = sound.issue_in;
      paid_in = sound.paid_in;
      last_after = grind (arith, ints);
      last_in = day_in;
      outstanding_in = sound.outstanding_in;
      outstanding_when = idle_when Lapsed p.outstanding refl (nothing_outstanding p sound (in_force_idle p.status in_force));
    })

sound_reinstate : (p after : Policy) (id amount : ℕ) (day : ℤ) → IsSound p → IsCommandDay day
    → next (Some p) (Reinstate id day amount) ≡ Ok after → IsSound after
sound_reinstate p after id amount day sound day_in e =
    let fact = accepted (checks_of p (Reinstate id day amount)) (changed p (Reinstate id day amount)) after e in
    let since = fact.0.0 in
    let lapsed = fact.0.1.0 in
    subst IsSound fact.1 (record {
      issue_in = sound.issue_in;
      paid_in = omega (arith, sound.paid_in, premiums_missed-le p day);
      last_after = grind (arith, ints);
      last_in = day_in;
      outstanding_in = sound.outstanding_in;
      outstanding_when = idle_when InForce p.outstanding refl (nothing_outstanding p sound (lapsed_idle p.status lapsed));
    })

sound_claim : (p after : Policy) (id : ℕ) (day : ℤ) → IsSound p → IsCommandDay day
    → next (Some p) (Claim id day) ≡ Ok after → IsSound after
sound_claim p after id day sound day_in e =
    let fact = accepted (checks_of p (Claim id day)) (changed p (Claim id day)) after e in
    let since = fact.0.0 in
    subst IsSound fact.1 (record {
      issue_in = sound.issue_in;
      paid_in = sound.paid_in;
      last_after = grind (arith, ints);
      last_in = day_in;
      outstanding_in = omega arith;
      outstanding_when = (λ some. refl, λ awaits. sound.issue_in.amount_in.0);
    })

-- the new amount is below the old one
sound_paid_up : (p after : Policy) (id amount : ℕ) (day : ℤ) → IsSound p → IsCommandDay day → IsAmount amount
    → next (Some p) (MakePaidUp id day amount) ≡ Ok after → IsSound after
sound_paid_up p after id amount day sound day_in amount_in e =
    let fact = accepted (checks_of p (MakePaidUp id day amount)) (changed p (MakePaidUp id day amount)) after e in
    let since = fact.0.0 in
    let in_force = fact.0.1.0 in
    let none = nothing_outstanding p sound (in_force_idle p.status in_force) in
    let i = sound.issue_in in
    subst IsSound fact.1 (record {
      issue_in = record { id_in = i.id_in; day_in = i.day_in; age_in = i.age_in; years_in = i.years_in; amount_in = amount_in; premium_in = i.premium_in };
      paid_in = sound.paid_in;
      last_after = grind (arith, ints);
      last_in = day_in;
      outstanding_in = omega arith;
      outstanding_when = idle_when PaidUp p.outstanding refl none;
    })

awaiting_when : (awaits : Bool) → not awaits ≡ false → awaits ≡ true
awaiting_when true e = refl
awaiting_when false e = absurd (cc)

-- a policy is settled exactly if nothing is left
left_when : (status : Status) (outstanding amount : ℕ) (all : Bool) → (amount == outstanding) ≡ all → amount ≤ outstanding
    → awaits_settlement status ≡ true
    → (0 < outstanding - amount) ↔ IsTrue (awaits_settlement (if all then Settled else status))
left_when status outstanding amount true e le awaits =
    let same : amount ≡ outstanding = eqb-true amount outstanding e in
    (λ some. absurd (omega arith), λ never. absurd (cc))
left_when status outstanding amount false e le awaits =
    (λ some. awaits, λ _. omega (arith, eqb-false amount outstanding e))

sound_settle : (p after : Policy) (id amount : ℕ) (day : ℤ) → IsSound p → IsCommandDay day
    → next (Some p) (Settle id day amount) ≡ Ok after → IsSound after
sound_settle p after id amount day sound day_in e =
    let fact = accepted (checks_of p (Settle id day amount)) (changed p (Settle id day amount)) after e in
    let since = fact.0.0 in
    let awaits = fact.0.1.0 in
    let enough = fact.0.1.1.0 in
    let awaiting : awaits_settlement p.status ≡ true = awaiting_when (awaits_settlement p.status) awaits in
    subst IsSound fact.1 (record {
      issue_in = sound.issue_in;
      paid_in = sound.paid_in;
      last_after = grind (arith, ints);
      last_in = day_in;
      outstanding_in = omega (arith, sound.outstanding_in);
      outstanding_when = left_when p.status p.outstanding amount (amount == p.outstanding) refl (grind (arith, nat_tests)) awaiting;
    })

paid_out : (p : Policy) → IsSound p → IsSound (record p { status = Matured; outstanding = p.amount })
paid_out p sound = record {
  issue_in = sound.issue_in;
  paid_in = sound.paid_in;
  last_after = sound.last_after;
  last_in = sound.last_in;
  outstanding_in = omega arith;
  outstanding_when = (λ some. refl, λ awaits. sound.issue_in.amount_in.0);
}

sound_matured : (p : Policy) (plan : Plan) → IsSound p → IsSound (matured plan p)
sound_matured p Term sound = record {
  issue_in = sound.issue_in;
  paid_in = sound.paid_in;
  last_after = sound.last_after;
  last_in = sound.last_in;
  outstanding_in = omega arith;
  outstanding_when = idle_when Expired 0 refl refl;
}
sound_matured p Whole sound = paid_out p sound
sound_matured p Endowment sound = paid_out p sound
sound_matured p Limited sound = paid_out p sound

sound_mature : (p after : Policy) (id : ℕ) (day : ℤ) → IsSound p → IsCommandDay day
    → next (Some p) (Mature id day) ≡ Ok after → IsSound after
sound_mature p after id day sound day_in e =
    let fact = accepted (checks_of p (Mature id day)) (changed p (Mature id day)) after e in
    let since = fact.0.0 in
    let later : IsSound (record p { last = day }) = record {
      issue_in = sound.issue_in;
      paid_in = sound.paid_in;
      last_after = grind (arith, ints);
      last_in = day_in;
      outstanding_in = sound.outstanding_in;
      outstanding_when = sound.outstanding_when;
    } in
    subst IsSound fact.1 (sound_matured (record p { last = day }) p.plan later)

-- what a valid command makes of a sound policy is sound
sound_after : (p after : Policy) (command : Command) → IsSound p → IsValid command → next (Some p) command ≡ Ok after → IsSound after
sound_after p after (Issue id day plan age years amount premium) sound valid e = absurd (cc)
sound_after p after (Premium id day amount) sound valid e = sound_premium p after id amount day sound valid.1 e
sound_after p after (Alter id day amount premium) sound valid e = sound_alter p after id amount premium day sound valid.1 valid.2 valid.3 e
sound_after p after (Lapse id day) sound valid e = sound_lapse p after id day sound valid.1 e
sound_after p after (Reinstate id day amount) sound valid e = sound_reinstate p after id amount day sound valid.1 e
sound_after p after (Claim id day) sound valid e = sound_claim p after id day sound valid.1 e
sound_after p after (Settle id day amount) sound valid e = sound_settle p after id amount day sound valid.1 e
sound_after p after (Mature id day) sound valid e = sound_mature p after id day sound valid.1 e
sound_after p after (MakePaidUp id day amount) sound valid e = sound_paid_up p after id amount day sound valid.1 valid.2 e
sound_after p after Upgrade sound valid e = absurd (cc)

pub next-sound : (before : Option Policy) (command : Command) → IsValid command → IfSome before IsSound → IfOk (next before command) IsSound
next-sound None command valid sound = by_kind (issue_or_other command)
  where
    by_kind : IsIssueHere command ⊎ NeedsPolicy command → IfOk (next None command) IsSound
    by_kind (inl c) =
        subst (λ (this : Command). IfOk (next None this) IsSound) (sym c.is)
        (sound_issue c.id c.age c.years c.amount c.premium c.day c.plan (subst IsValid c.is valid))
    by_kind (inr other) = subst (λ (decision : Result Policy Refusal). IfOk decision IsSound) (sym other.refused) tt
next-sound (Some p) command valid sound = if_ok (next (Some p) command) (λ after e. sound_after p after command sound valid e)

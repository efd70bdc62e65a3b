-- What an accepted command states
use Rattle.policy_machine.proofs.Names.{◌≡◌, ◌+◌, ◌-◌, ◌==◌, Bool, true, false, if◌then◌else◌, sym, ap, ◌∙◌, refl, subst, List, [], ◌∷◌, ℤ, Some, None, Option, Ok, Err, Result, IfOk, IfSome, ℕ, ◌⊎◌, inl, inr, AllByRecursion, Command, Issue, Premium, Alter, Lapse, Reinstate, Claim, Settle, Mature, MakePaidUp, Upgrade, Plan, Term, Whole, Endowment, Limited, Policy, Status, Refusal, Unknown, id_of, day_of, Check, checks_of, changed, first_refusal, decided, matured, premiums_missed, issued, next, IsSameContract, issue_id}
use Rattle.policy_types.specs.declared.policy.Status.TheVariants.{InForce, Lapsed, Claimed, Matured, Expired, Settled, PaidUp}

-- the command is this issue
pub record IsIssueHere (command : Command) : Type 0 where
  pub id : ℕ
  pub day : ℤ
  pub plan : Plan
  pub age : ℕ
  pub years : ℕ
  pub amount : ℕ
  pub premium : ℕ
  pub is : command ≡ Issue id day plan age years amount premium

-- the command issues nothing, and is refused if there is no policy with its number
pub record NeedsPolicy (command : Command) : Type 0 where
  pub none : issue_id command ≡ None
  pub refused : next None command ≡ Err Unknown

-- every command is one or the other
pub issue_or_other : (command : Command) → IsIssueHere command ⊎ NeedsPolicy command
issue_or_other (Issue id day plan age years amount premium) = inl (record {
  id = id;
  day = day;
  plan = plan;
  age = age;
  years = years;
  amount = amount;
  premium = premium;
  is = refl;
})
issue_or_other (Premium id day amount) = inr (record { none = refl; refused = refl })
issue_or_other (Alter id day amount premium) = inr (record { none = refl; refused = refl })
issue_or_other (Lapse id day) = inr (record { none = refl; refused = refl })
issue_or_other (Reinstate id day amount) = inr (record { none = refl; refused = refl })
issue_or_other (Claim id day) = inr (record { none = refl; refused = refl })
issue_or_other (Settle id day amount) = inr (record { none = refl; refused = refl })
issue_or_other (Mature id day) = inr (record { none = refl; refused = refl })
issue_or_other (MakePaidUp id day amount) = inr (record { none = refl; refused = refl })
issue_or_other Upgrade = inr (record { none = refl; refused = refl })

-- if a decision is no refusal, its first check doesn't apply
passed : (applies : Bool) (refusal : Refusal) (others : Option Refusal) (after kept : Policy)
    → decided (if applies then Some refusal else others) after ≡ Ok kept → (applies ≡ false) × (decided others after ≡ Ok kept)
passed true refusal others after kept e = absurd (cc)
passed false refusal others after kept e = (refl, e)

-- nor do the other checks, and the policy is the changed one
pub accepted : (checks : List Check) (after kept : Policy) → decided (first_refusal checks) after ≡ Ok kept
    → AllByRecursion (λ check. check.applies ≡ false) checks × (after ≡ kept)
accepted [] after kept e = (tt, (cc))
accepted (check ∷ checks) after kept e =
    let first = passed check.applies check.refusal (first_refusal checks) after kept e in
    let rest = accepted checks after kept first.1 in
    ((first.0, rest.0), rest.1)

-- a policy of other amounts, days and state
alike : (p : Policy) (amount premium : ℕ) (last : ℤ) (paid : ℕ) (status : Status) (outstanding : ℕ)
    → IsSameContract p (record p { amount = amount; premium = premium; last = last; paid = paid; status = status; outstanding = outstanding })
alike p amount premium last paid status outstanding =
    record { same_id = refl; same_plan = refl; same_age = refl; same_years = refl; same_issued = refl }

mature_keeps : (plan : Plan) (p : Policy) (day : ℤ)
    → IsSameContract p (matured plan (record p { last = day })) × ((matured plan (record p { last = day })).last ≡ day)
mature_keeps Term p day = (alike p p.amount p.premium day p.paid Expired 0, refl)
mature_keeps Whole p day = (alike p p.amount p.premium day p.paid Matured p.amount, refl)
mature_keeps Endowment p day = (alike p p.amount p.premium day p.paid Matured p.amount, refl)
mature_keeps Limited p day = (alike p p.amount p.premium day p.paid Matured p.amount, refl)

-- what the changes keep
changed_keeps : (p : Policy) (command : Command) → IsSameContract p (changed p command)
changed_keeps p (Mature id day) = (mature_keeps p.plan p day).0
changed_keeps p (Issue id day plan age years amount premium) = alike p p.amount p.premium p.last p.paid p.status p.outstanding
changed_keeps p (MakePaidUp id day amount) = alike p amount p.premium day p.paid PaidUp p.outstanding
changed_keeps p Upgrade = alike p p.amount p.premium p.last p.paid p.status p.outstanding
changed_keeps p (Premium id day amount) = alike p p.amount p.premium day (p.paid + 1) p.status p.outstanding
changed_keeps p (Alter id day amount premium) = alike p amount premium day p.paid p.status p.outstanding
changed_keeps p (Lapse id day) = alike p p.amount p.premium day p.paid Lapsed p.outstanding
changed_keeps p (Reinstate id day amount) = alike p p.amount p.premium day (p.paid + premiums_missed p day) InForce p.outstanding
changed_keeps p (Claim id day) = alike p p.amount p.premium day p.paid Claimed p.amount
changed_keeps p (Settle id day amount) =
    alike p p.amount p.premium day p.paid (if amount == p.outstanding then Settled else p.status) (p.outstanding - amount)

pub next-keeps : (before after : Policy) (command : Command) → next (Some before) command ≡ Ok after → IsSameContract before after
next-keeps before after command e =
    let fact = accepted (checks_of before command) (changed before command) after e in
    subst (IsSameContract before) fact.1 (changed_keeps before command)

last_day : (before after : Policy) (command : Command) → next (Some before) command ≡ Ok after
    → day_of command ≡ Some (changed before command).last → day_of command ≡ Some after.last
last_day before after command e day =
    let fact = accepted (checks_of before command) (changed before command) after e in
    day ∙ ap (λ (p : Policy). Some p.last) fact.1

-- the day of an accepted command is the policy's last
pub next-last : (before : Option Policy) (after : Policy) (command : Command) → next before command ≡ Ok after → day_of command ≡ Some after.last
next-last None after command e = by_kind (issue_or_other command)
  where
    by_kind : IsIssueHere command ⊎ NeedsPolicy command → day_of command ≡ Some after.last
    by_kind (inl c) =
        let first : next None command ≡ Ok (issued c.id c.day c.plan c.age c.years c.amount c.premium) = ap (next None) c.is in
        let same : issued c.id c.day c.plan c.age c.years c.amount c.premium ≡ after = cc in
        ap day_of c.is ∙ ap (λ (p : Policy). Some p.last) same
    by_kind (inr other) = let refused = other.refused in absurd (cc)
next-last (Some p) after (Issue id day plan age years amount premium) e = absurd (cc)
next-last (Some p) after (Premium id day amount) e = last_day p after (Premium id day amount) e refl
next-last (Some p) after (Alter id day amount premium) e = last_day p after (Alter id day amount premium) e refl
next-last (Some p) after (Lapse id day) e = last_day p after (Lapse id day) e refl
next-last (Some p) after (Reinstate id day amount) e = last_day p after (Reinstate id day amount) e refl
next-last (Some p) after (Claim id day) e = last_day p after (Claim id day) e refl
next-last (Some p) after (Settle id day amount) e = last_day p after (Settle id day amount) e refl
next-last (Some p) after (Mature id day) e = last_day p after (Mature id day) e (ap Some (sym (mature_keeps p.plan p day).1))
next-last (Some p) after (MakePaidUp id day amount) e = last_day p after (MakePaidUp id day amount) e refl
next-last (Some p) after Upgrade e = absurd (cc)

begun : (id : ℕ) (after : Policy) (command : Command) → id_of command ≡ id → next None command ≡ Ok after → after.id ≡ id
begun id after command own e = by_kind (issue_or_other command)
  where
    by_kind : IsIssueHere command ⊎ NeedsPolicy command → after.id ≡ id
    by_kind (inl c) =
        let first : next None command ≡ Ok (issued c.id c.day c.plan c.age c.years c.amount c.premium) = ap (next None) c.is in
        let same : issued c.id c.day c.plan c.age c.years c.amount c.premium ≡ after = cc in
        sym (ap (λ (p : Policy). p.id) same) ∙ sym (ap id_of c.is) ∙ own
    by_kind (inr other) = let refused = other.refused in absurd (cc)

pub if_ok : {P : Policy → Type 0} (r : Result Policy Refusal) → ((after : Policy) → r ≡ Ok after → P after) → IfOk r P
if_ok (Ok after) each = each after refl
if_ok (Err refusal) each = tt

-- the policy of a number keeps the number
pub next-own : (before : Option Policy) (command : Command) (id : ℕ) → id_of command ≡ id → IfSome before (λ p. p.id ≡ id)
    → IfOk (next before command) (λ p. p.id ≡ id)
next-own None command id own here = if_ok {P = λ p. p.id ≡ id} (next None command) (λ after e. begun id after command own e)
next-own (Some p) command id own here = if_ok {P = λ p. p.id ≡ id} (next (Some p) command) (λ after e. (next-keeps p after command e).same_id ∙ here)

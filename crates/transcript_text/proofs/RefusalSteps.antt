-- The day or amount of every refusal that is due can be written
use Rattle.transcript_text.proofs.Names.{◌≡◌, ℕ, ◌+◌, ◌*◌, ◌≤◌, ◌<◌, ◌==◌, Bool, true, false, if◌then◌else◌, List, [], ◌∷◌, length, refl, ap, subst, ◌⊎◌, inl, inr, Ok, Err, Some, None, Option, arith, ℤ, IfSome, AllByRecursion, Command, AreYears, IsValid, id_of, IsTermDay, refusal_due, IsPrintable}
use Rattle.policy_types.specs.declared.command.Command.TheVariants.{Issue, Premium, Alter, Lapse, Reinstate, Claim, Settle, Mature, PaidUp as MakePaidUp, Upgrade}
use Rattle.policy_types.specs.declared.command.Plan.{Plan}
use Rattle.policy_types.specs.declared.command.Plan.TheVariants.{Term, Whole, Endowment, Limited}
use Rattle.policy_types.specs.declared.policy.Policy.{Policy}
use Rattle.policy_types.specs.declared.refusal.Refusal.{Refusal}
use Rattle.policy_types.specs.declared.refusal.Refusal.TheVariants.{Full, NotUpgraded, Unknown, Upgraded}
use Rattle.policy_types.specs.Limits.{most_commands}
use Rattle.life_dates.proofs.AnniversaryLemmas.{anniversary_in}
use Rattle.command_csv.proofs.FieldTexts.{term_day}
use Rattle.policy_machine.specs.Book.{judge, policy_of, upgrade_of}
use Rattle.policy_machine.specs.Rules.{Check, IsSound, changed, checks_of, due_of, end_of, first_refusal, issued, next, payments_of, premiums_missed, reinstatement_end_of, years_of}
use Rattle.policy_machine.proofs.Parts.{decided, payments_in, years_in}
use Rattle.policy_machine.proofs.AcceptedLemmas.{IsIssueHere, NeedsPolicy, issue_or_other}
use Rattle.policy_machine.proofs.BookLemmas.{policy_of-sound}
use Rattle.policy_machine.proofs.JudgeLemmas.{judged_refusal}
use Rattle.policy_machine.proofs.MissedLemmas.{premiums_missed-le}

few_years : (plan : Plan) (age years : ℕ) → AreYears plan age years → years_in plan age years ≤ 131
few_years Term age years within = omega (arith, within)
few_years Whole age years within = omega arith
few_years Endowment age years within = omega (arith, within)
few_years Limited age years within = omega arith

few_payments : (plan : Plan) (age years : ℕ) → AreYears plan age years → payments_in plan age years ≤ 131
few_payments Term age years within = omega (arith, within)
few_payments Whole age years within = omega arith
few_payments Endowment age years within = omega (arith, within)
few_payments Limited age years within = omega (arith, within)

small : (m n : ℕ) → m ≤ 131 → n ≤ 10000000000 → m * n < 9223372036854775808
small m n few little =
    let most : m * n ≤ 131 * 10000000000 = grind (arith, few, little) in
    omega (arith, most)

module _ (p : Policy) (sound : IsSound p) where
  most_payments : payments_of p ≤ 131
  most_payments = few_payments p.plan p.age p.years sound.issue_in.years_in

  last_day : IsTermDay p.last
  last_day = term_day p.last sound.last_in

  end_day : IsTermDay (end_of p)
  end_day = anniversary_in p.issued (years_of p) sound.issue_in.day_in
      (omega (arith, few_years p.plan p.age p.years sound.issue_in.years_in))

  due_day : IsTermDay (due_of p)
  due_day = anniversary_in p.issued p.paid sound.issue_in.day_in (omega (arith, most_payments, sound.paid_in))

  limit_day : IsTermDay (reinstatement_end_of p)
  limit_day = anniversary_in p.issued (p.paid + 3) sound.issue_in.day_in (omega (arith, most_payments, sound.paid_in))

  small_sum : (day : ℤ) → premiums_missed p day * p.premium < 9223372036854775808
  small_sum day =
      let missed : premiums_missed p day ≤ 131 = omega (arith, premiums_missed-le p day, most_payments) in
      let premium : p.premium ≤ 10000000000 = sound.issue_in.premium_in.1 in
      small (premiums_missed p day) p.premium missed premium

  -- whatever is checked
  checks_printable : (command : Command) → AllByRecursion (λ (check : Check). IsPrintable check.refusal) (checks_of p command)
  checks_printable (Issue id day plan age years amount premium) = (tt, tt)
  checks_printable (Premium id day amount) = (last_day, (tt, (end_day, (tt, (due_day, (due_day, (omega (arith, sound.issue_in.premium_in), tt)))))))
  checks_printable (Alter id day amount premium) = (last_day, (tt, (end_day, (due_day, (omega (arith, sound.issue_in.amount_in), tt)))))
  checks_printable (Lapse id day) = (last_day, (tt, (tt, (due_day, tt))))
  checks_printable (Reinstate id day amount) = (last_day, (tt, (end_day, (limit_day, (small_sum day, tt)))))
  checks_printable (Claim id day) = (last_day, (tt, (end_day, (due_day, tt))))
  checks_printable (Settle id day amount) = (last_day, (tt, (omega (arith, sound.outstanding_in, sound.issue_in.amount_in), tt)))
  checks_printable (Mature id day) = (last_day, (tt, (due_day, (end_day, tt))))
  checks_printable (MakePaidUp id day amount) = (last_day, (tt, (end_day, (tt, (due_day, (omega (arith, sound.issue_in.amount_in), tt))))))
  checks_printable Upgrade = (tt, tt)

-- the first that applies is one of them
by_first : (applies : Bool) (first : Refusal) (others : Option Refusal) (after : Policy) (refusal : Refusal) → IsPrintable first
    → (decided others after ≡ Err refusal → IsPrintable refusal)
    → decided (if applies then Some first else others) after ≡ Err refusal → IsPrintable refusal
by_first true first others after refusal here rest e = let same : first ≡ refusal = cc in subst IsPrintable same here
by_first false first others after refusal here rest e = rest e

first_printable : (checks : List Check) (after : Policy) (refusal : Refusal)
    → AllByRecursion (λ (check : Check). IsPrintable check.refusal) checks
    → decided (first_refusal checks) after ≡ Err refusal → IsPrintable refusal
first_printable [] after refusal each e = absurd (cc)
first_printable (check ∷ checks) after refusal each e =
    by_first check.applies check.refusal (first_refusal checks) after refusal each.0 (first_printable checks after refusal each.1) e

next_printable : (policy : Option Policy) (command : Command) (refusal : Refusal) → IfSome policy IsSound
    → next policy command ≡ Err refusal → IsPrintable refusal
next_printable None command refusal sound e = by_kind (issue_or_other command)
  where
    by_kind : IsIssueHere command ⊎ NeedsPolicy command → IsPrintable refusal
    by_kind (inl c) =
        let made : next None command ≡ Ok (issued c.id c.day c.plan c.age c.years c.amount c.premium) = ap (next None) c.is in absurd (cc)
    by_kind (inr other) = let refused = other.refused in let same : Unknown ≡ refusal = cc in subst IsPrintable same tt
next_printable (Some p) command refusal sound e =
    first_printable (checks_of p command) (changed p command) refusal (checks_printable p sound command) e

full_printable : (full : Bool) (refusal : Refusal) → (if full then Some Full else None) ≡ Some refusal → IsPrintable refusal
full_printable true refusal e = let same : Full ≡ refusal = cc in subst IsPrintable same tt
full_printable false refusal e = absurd (cc)

-- why a command can't be posted after valid ones
pub due_printable : (commands : List Command) (command : Command) (refusal : Refusal) → AllByRecursion IsValid commands
    → refusal_due commands command ≡ Some refusal → IsPrintable refusal
due_printable commands command refusal valid e = by (judge commands command) refl e
  where
    policy : Option Policy
    policy = policy_of commands (id_of command)

    of_rules : (why : Refusal)
        → (Upgraded (upgrade_of commands) ≡ why) ⊎ ((NotUpgraded ≡ why) ⊎ (next policy command ≡ Err why)) → IsPrintable why
    of_rules why (inl again) = subst IsPrintable again tt
    of_rules why (inr (inl before)) = subst IsPrintable before tt
    of_rules why (inr (inr refused)) = next_printable policy command why (policy_of-sound commands (id_of command) valid) refused

    by : (judgement : Option Refusal) → judge commands command ≡ judgement → refusal_due commands command ≡ Some refusal → IsPrintable refusal
    by (Some why) is e =
        let due : Some why ≡ Some refusal = rw is at e in
        let same : why ≡ refusal = cc in
        subst IsPrintable same (of_rules why (judged_refusal (upgrade_of commands) policy command why is))
    by None is e =
        let due : (if length commands == most_commands then Some Full else None) ≡ Some refusal = rw is at e in
        full_printable (length commands == most_commands) refusal due

-- What the worked valuation is computed from.
use Rattle.valuing_modes.proofs.Names.{◌≡◌, ◌≤◌, ◌≤ℤ◌, ◌<ℤ◌, ℕ, pos, true, List, [], ◌∷◌, All, inl, inr, refl, subst, lit≤, lit<, arith, ints, IsDay, day_number, date_of, month_of, days_before_year, days_of_months, Policy, Dated, IsPicked, IsValuedRow}
use Rattle.std.specs.Prelude.{MatchResult}
use Rattle.std.proofs.lemmas.Bool.{cases_lt}
use Rattle.std.proofs.lemmas.List.Elements.{All-nil, All-cons}
use Rattle.life_dates.specs.Anniversary.{anniversary_of}
use Rattle.life_dates.proofs.AnniversaryLemmas.{anniversary_lt}
use Rattle.policy_types.specs.declared.command.Plan.TheVariants.{Endowment}
use Rattle.policy_types.specs.declared.policy.Status.TheVariants.{InForce, PaidUp}
use Rattle.policy_machine.specs.Rules.{issued}
use Rattle.rate_table.specs.declared.shape.Shape.{Shape}
use Rattle.select_rates.specs.declared.any.AnyTable.TheVariants.{Aggregate}
use Rattle.plan_benefits.specs.Shapes.{shape_of}
use Rattle.plan_benefits.specs.declared.fault.NotValued.TheVariants.{BelowTable, NoBasis}
use Rattle.present_value.specs.Fractions.{less, times, over, plus, lesser, whole}
use Rattle.present_value.specs.Sums.{Cover, ben, ann, survivors}
use Rattle.present_value.specs.Premium.{beta, excess, term_premium, renewal_premium, level_premium}
use Rattle.present_value.specs.Reserve.{Encloses, reserve}
use Rattle.present_value.specs.Recursion.{ben_bound, ann_bound}
use Rattle.present_value.specs.Worked.{five_ages}
use Rattle.crvm_reserve.specs.Rounded.{level_bound, excess_bound, beta_bound, reserve_bound}
use Rattle.basis_book.proofs.CallerLemmas.{none_picked, one_picked}
use Rattle.policy_value.specs.Covers.{AreByDuration, cap_along, cover_along}
use Rattle.policy_value.specs.Measures.{IsExactFor, IsWorthOf}
use Rattle.policy_value.specs.Rows.{IsInsured, IsYear}
use Rattle.policy_value.specs.declared.worth.Measure.TheVariants.{Terminal}
use Rattle.policy_value.specs.declared.worth.Worth.{Worth}
use Rattle.policy_value.specs.declared.worth.Worth.TheVariants.{Bounds, Word}
use Rattle.valuing_modes.specs.Worked.Valued.{from_2000, from_2020}

abbrev both : List Dated
both = from_2000 ∷ from_2020 ∷ []

-- what is reported of a policy by an entry
abbrev IsBy : Policy → Dated → ℕ → Worth → Type 0
IsBy policy entry t worth = MatchResult (shape_of policy.plan policy.age policy.years entry.table)
    (λ shape. IsYear policy.issued (pos 18628) shape.n t
    × IsWorthOf Terminal policy (cover_along entry.table shape entry.bp) (cap_along entry.table shape.age entry.bp) t worth
    × AreByDuration entry.table shape.age (cover_along entry.table shape entry.bp) (cap_along entry.table shape.age entry.bp)
    × IsExactFor Terminal policy (cover_along entry.table shape entry.bp) (cap_along entry.table shape.age entry.bp) t worth)
    (λ why. (t ≡ 0) × (worth ≡ Word why))

-- the row of an insured policy whose entry is known
by_entry : (policy : Policy) (place : ℕ) (entry : Dated) (t : ℕ) (worth : Worth) → IsPicked both policy.issued place entry
    → IsInsured policy (pos 18628) → IsBy policy entry t worth
    → IsValuedRow both (pos 18628) Terminal policy (record { id = policy.id; status = policy.status; t = t; worth = worth })
by_entry policy place entry t worth picked insured is = record {
  id = refl;
  status = refl;
  worth = record {
    uninsured = λ no. absurd (no insured);
    unnamed = λ _ all. absurd (none_picked both policy.issued place entry all picked);
    named = λ _ i e other. subst (λ (e : Dated). IsBy policy e t worth) (one_picked both policy.issued place i entry e picked other).1 is;
  };
}

first_picked : IsPicked both (pos 18262) 0 from_2000
first_picked = record {
  before = [];
  after = from_2020 ∷ [];
  split = refl;
  place = refl;
  begun = omega (arith, ints);
  later = All-cons (λ (other : Dated). pos 18262 <ℤ other.from_day) from_2020 [] (omega (arith, ints)) (All-nil (λ (other : Dated). pos 18262 <ℤ other.from_day));
}

second_picked : IsPicked both (pos 18263) 1 from_2020
second_picked = record {
  before = from_2000 ∷ [];
  after = [];
  split = refl;
  place = refl;
  begun = omega (arith, ints);
  later = All-nil (λ (other : Dated). pos 18263 <ℤ other.from_day);
}

in_days : IsDay (pos 18262)
in_days = (omega (arith, ints), omega (arith, ints))

second_anniversary : anniversary_of (pos 18262) 2 ≡ pos 18993
unfolding anniversary_of day_number date_of month_of days_before_year days_of_months
second_anniversary = refl

first_anniversary : anniversary_of (pos 18262) 1 ≡ pos 18628
unfolding anniversary_of day_number date_of month_of days_before_year days_of_months
first_anniversary = refl

-- the second anniversary hasn't come, nor has a later one
at_most_one : (u : ℕ) → u ≤ 131 → anniversary_of (pos 18262) u ≤ℤ pos 18628 → u ≤ 1
at_most_one u most come = elim (cases_lt 1 u) [
  | inr le ↦ le
  | inl more ↦ elim (cases_lt 2 u) [
    | inl beyond ↦ absurd (omega (arith, ints, second_anniversary, anniversary_lt (pos 18262) 2 u in_days beyond (omega arith), come))
    | inr two ↦ let e : u ≡ 2 = omega arith in absurd (omega (arith, ints, second_anniversary, rw e at come))
  ]
]

is_year : IsYear (pos 18262) (pos 18628) 3 1
is_year = (1, record { most = lit≤ tt; reached = rw first_anniversary (omega (arith, ints)); greatest = at_most_one }, refl)

abbrev three_years : Shape
three_years = record { age = 0; n = 3; h = 3; matures = true }

abbrev own_cover : Cover
own_cover = cover_along (Aggregate five_ages) three_years 0

abbrev own_cap : Cover
own_cap = cap_along (Aggregate five_ages) 0 0

by_duration : AreByDuration (Aggregate five_ages) 0 own_cover own_cap
by_duration = record {
  own = λ k below. ((omega arith, omega (arith, below)), refl);
  next = λ k below. ((omega arith, omega (arith, below)), refl);
}

abbrev first : Policy
first = issued 7001 (pos 18262) Endowment 0 3 100000 40000

-- 450/3537 of 1000.00
encloses_450 : Encloses 12722 12723 100000 (reserve own_cover own_cap 1)
unfolding reserve beta excess term_premium renewal_premium level_premium ben ann survivors less times over plus lesser whole
encloses_450 = record { between = record { proper = lit< tt; above = lit≤ tt; below = lit≤ tt }; narrow = lit≤ tt }

pub first_row : IsValuedRow both (pos 18628) Terminal first (record { id = 7001; status = InForce; t = 1; worth = Bounds 12722 12723 })
unfolding ben_bound ann_bound level_bound excess_bound beta_bound reserve_bound
first_row = by_entry first 0 from_2000 1 (Bounds 12722 12723) first_picked (inl refl, omega (arith, ints))
    (is_year, refl, by_duration, encloses_450)

pub second_row : IsValuedRow both (pos 18628) Terminal (issued 7002 (pos 18263) Endowment 0 3 100000 40000) (record { id = 7002; status = InForce; t = 0; worth = Word BelowTable })
second_row = by_entry (issued 7002 (pos 18263) Endowment 0 3 100000 40000) 1 from_2020 0 (Word BelowTable) second_picked (inl refl, omega (arith, ints)) (refl, refl)

none_before : All (λ (other : Dated). pos 10956 <ℤ other.from_day) both
none_before =
    let P = λ (other : Dated). pos 10956 <ℤ other.from_day in
    All-cons P from_2000 (from_2020 ∷ []) (omega (arith, ints)) (All-cons P from_2020 [] (omega (arith, ints)) (All-nil P))

pub third_row : IsValuedRow both (pos 18628) Terminal (issued 7003 (pos 10956) Endowment 0 3 100000 40000) (record { id = 7003; status = InForce; t = 0; worth = Word NoBasis })
third_row = record {
  id = refl;
  status = refl;
  worth = record {
    uninsured = λ no. absurd (no (inl refl, omega (arith, ints)));
    unnamed = λ _ _. (refl, refl);
    named = λ _ i e picked. absurd (none_picked both (pos 10956) i e none_before picked);
  };
}

pub fourth_row : IsValuedRow both (pos 18628) Terminal (issued 7004 (pos 18629) Endowment 0 3 100000 40000) (record { id = 7004; status = InForce; t = 0; worth = Bounds 0 0 })
fourth_row = record {
  id = refl;
  status = refl;
  worth = record {
    uninsured = λ _. (refl, refl);
    unnamed = λ is. absurd (omega (arith, ints, is.1));
    named = λ is. absurd (omega (arith, ints, is.1));
  };
}

abbrev fifth : Policy
fifth = record (issued 7005 (pos 18262) Endowment 0 3 100000 40000) { last = pos 18597; paid = 1; status = PaidUp; amount = 30000 }

-- all of 300.00
encloses_all : Encloses 30000 30000 30000 (ben own_cover 1)
unfolding ben survivors
encloses_all = record { between = record { proper = lit< tt; above = lit≤ tt; below = lit≤ tt }; narrow = lit≤ tt }

pub fifth_row : IsValuedRow both (pos 18628) Terminal fifth (record { id = 7005; status = PaidUp; t = 1; worth = Bounds 30000 30000 })
unfolding ben_bound
fifth_row = by_entry fifth 0 from_2000 1 (Bounds 30000 30000) first_picked (inr refl, omega (arith, ints))
    (is_year, refl, by_duration, encloses_all)

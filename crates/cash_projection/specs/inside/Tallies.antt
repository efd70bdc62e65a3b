-- The sums of what policies pay and are paid.
use Rattle.std.specs.Prelude.{◌≡◌, ℕ, ◌+◌, ◌*◌, ◌<◌, ◌≤◌, List, length, slice_index_or, ℤ, Result, MatchResult}
use Rattle.cash_projection.specs.Names.{AllByRecursion, AllZip, sum_by, table_along, most_commands, Policy, Rates, AreRates, AnyTable, down, up, pair_at, Pair, Dated, Shape, NotValued}
use Rattle.cash_projection.specs.Prospects.{Prospect, IsSmall, due, premium_due, death_due, maturity_due}
use Rattle.cash_projection.specs.Survival.{alive_by, dying_by}
use Rattle.cash_projection.specs.Policies.{IsProspect, prospect_of}
use Rattle.cash_projection.specs.inside.Ahead.{nothing_ahead}
use Rattle.policy_value.specs.Rows.{IsYear}
use Rattle.cash_projection.specs.inside.Parts.{MOST_PART}
use Rattle.cash_projection.specs.declared.column.Sums.{Sums}
use Rattle.cash_projection.specs.declared.tally.Tally.{Tally}

-- one policy's rounded parts of a year's totals, in 10^-16 of a cent
abbrev pub premium_by : (ℕ → ℕ → ℕ) → ℕ → Prospect → ℕ
premium_by quotient j p = premium_due p j * alive_by quotient p.rates j

abbrev pub death_by : (ℕ → ℕ → ℕ) → ℕ → Prospect → ℕ
death_by quotient j p = death_due p j * dying_by quotient p.rates j

abbrev pub maturity_by : (ℕ → ℕ → ℕ) → ℕ → Prospect → ℕ
maturity_by quotient j p = maturity_due p j * alive_by quotient p.rates (j + 1)

abbrev pub sums_of : ℕ → ℕ → Sums
sums_of lo hi = record { lo = lo; hi = hi }

abbrev pub sum_at : List Sums → ℕ → Sums
sum_at sums j = slice_index_or sums j (sums_of 0 0)

-- cents times the pair of each year were added, in the years from `from` on and before `to`
pub record HasRisen (from to cents : ℕ) (pairs : List Pair) (old new : List Sums) : Type 0 where
  pub places : length new ≡ 131
  pub lo : (j : ℕ) → (sum_at new j).lo ≡ (sum_at old j).lo + due from to cents j * (pair_at pairs j).lo
  pub hi : (j : ℕ) → (sum_at new j).hi ≡ (sum_at old j).hi + due from to cents j * (pair_at pairs j).hi

-- a part was added in each of so many years
pub record HasGained (years : ℕ) (part : (ℕ → ℕ → ℕ) → ℕ → Prospect → ℕ) (p : Prospect) (old new : List Sums) : Type 0 where
  pub places : length new ≡ 131
  pub lo : (j : ℕ) → j < years → (sum_at new j).lo ≡ (sum_at old j).lo + part down j p
  pub hi : (j : ℕ) → j < years → (sum_at new j).hi ≡ (sum_at old j).hi + part up j p

-- a policy's parts were added
pub record HasAdded (years : ℕ) (p : Prospect) (old new : Tally) : Type 0 where
  pub same : new.years ≡ old.years
  pub policies : new.policies ≡ old.policies + 1
  pub unvalued : new.unvalued ≡ old.unvalued + p.words
  pub premium : HasGained years premium_by p old.premium.sums new.premium.sums
  pub death : HasGained years death_by p old.death.sums new.death.sums
  pub maturity : HasGained years maturity_by p old.maturity.sums new.maturity.sums

-- the sums of the parts, in each of so many years
pub record AreSums (years : ℕ) (part : (ℕ → ℕ → ℕ) → ℕ → Prospect → ℕ) (ps : List Prospect) (sums : List Sums) : Type 0 where
  pub places : length sums ≡ 131
  pub lo : (j : ℕ) → j < years → (sum_at sums j).lo ≡ sum_by (part down j) ps
  pub hi : (j : ℕ) → j < years → (sum_at sums j).hi ≡ sum_by (part up j) ps

pub record IsTally (years : ℕ) (ps : List Prospect) (tally : Tally) : Type 0 where
  pub same : tally.years ≡ years
  pub policies : tally.policies ≡ length ps
  pub unvalued : tally.unvalued ≡ sum_by (λ (p : Prospect). p.words) ps
  pub premium : AreSums years premium_by ps tally.premium.sums
  pub death : AreSums years death_by ps tally.death.sums
  pub maturity : AreSums years maturity_by ps tally.maturity.sums
  pub small : AllByRecursion IsSmall ps

-- the tally of a list of policies
pub record IsTallyOf (basis : List Dated) (on : ℤ) (years : ℕ) (policies : List Policy) (tally : Tally) : Type 0 where
  pub prospects : List Prospect
  pub each : AllZip (IsProspect basis on) policies prospects
  pub tallied : IsTally years prospects tally

-- no sum, of so many years, is above what 4,000,000 policies can add up to
pub record IsRoomy (years : ℕ) (sums : List Sums) : Type 0 where
  pub places : length sums ≡ 131
  pub lo : (j : ℕ) → j < years → (sum_at sums j).lo ≤ most_commands * MOST_PART
  pub hi : (j : ℕ) → j < years → (sum_at sums j).hi ≤ most_commands * MOST_PART

-- each sum of so many years is that of both
pub record AreBothSums (years : ℕ) (ours theirs new : List Sums) : Type 0 where
  pub places : length new ≡ 131
  pub lo : (j : ℕ) → j < years → (sum_at new j).lo ≡ (sum_at ours j).lo + (sum_at theirs j).lo
  pub hi : (j : ℕ) → j < years → (sum_at new j).hi ≡ (sum_at ours j).hi + (sum_at theirs j).hi

-- the tally is of at most 4,000,000 policies
pub record IsSized (tally : Tally) : Type 0 where
  pub policies : tally.policies ≤ most_commands
  pub unvalued : tally.unvalued ≤ tally.policies
  pub years : tally.years ≤ 131
  pub premium : IsRoomy tally.years tally.premium.sums
  pub death : IsRoomy tally.years tally.death.sums
  pub maturity : IsRoomy tally.years tally.maturity.sums

-- the tally can take one more policy
abbrev pub TakesOneMore : Tally → Type 0
TakesOneMore tally = IsSized tally × (tally.policies < most_commands)

-- nothing is due in any year
pub record IsIdle (p : Prospect) : Type 0 where
  pub premium : (j : ℕ) → premium_due p j ≡ 0
  pub death : (j : ℕ) → death_due p j ≡ 0
  pub maturity : (j : ℕ) → maturity_due p j ≡ 0

-- the table holds the ages of a shape
pub record Fits (table : Rates) (shape : Shape) : Type 0 where
  pub first : table.first_age ≤ shape.age
  pub last : shape.age + shape.n ≤ table.first_age + length table.rates
  pub paid : shape.h ≤ shape.n
  pub within : AreRates table

-- a policy was added
pub record HasCounted (basis : List Dated) (on : ℤ) (policy : Policy) (old new : Tally) : Type 0 where
  pub prospect : Prospect
  pub is : IsProspect basis on policy prospect
  pub small : IsSmall prospect
  pub added : HasAdded old.years prospect old new

-- the prospect of an insured policy by a table; a policy without a shape has a word
abbrev pub IsProspectBy : Policy → AnyTable → ℤ → Result Shape NotValued → Prospect → Type 0
IsProspectBy policy table on answer p = MatchResult answer
    (λ shape. (t : ℕ) × IsYear policy.issued on shape.n t × (p ≡ prospect_of policy (table_along table shape.age) shape t))
    (λ why. p ≡ nothing_ahead 1)

-- an insured policy was added by a table
pub record HasCountedBy (policy : Policy) (table : AnyTable) (on : ℤ) (shape : Result Shape NotValued) (old new : Tally) : Type 0 where
  pub prospect : Prospect
  pub is : IsProspectBy policy table on shape prospect
  pub small : IsSmall prospect
  pub added : HasAdded old.years prospect old new

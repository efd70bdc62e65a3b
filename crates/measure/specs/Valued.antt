-- What a policy of the workload adds to the totals: the bounds of its reserve on 2020-12-31, at 4 percent
use Rattle.std.specs.Prelude.{◌≡◌, ℕ, ◌+◌, ◌-◌, ◌^◌, min, Option, Some, None, IsErr, Ok, pos}
use Rattle.life_dates.specs.Anniversary.{IsCompleted}
use Rattle.rate_table.specs.Rates.{Rates}
use Rattle.rate_table.specs.declared.shape.Shape.{Shape}
use Rattle.plan_benefits.specs.Shapes.{shape_by}
use Rattle.present_value.specs.Premium.{cap_of}
use Rattle.present_value.specs.Sums.{cover_of}
use Rattle.crvm_reserve.specs.Rounded.{rounded}
use Rattle.measure.specs.declared.reserves.Totals.{Totals}
use Rattle.load_maker.specs.declared.generator.Drawn.{Drawn}

-- the years that have passed since the issue, and at most those of the cover
abbrev pub IsYearOf : Drawn → Shape → ℕ → Type 0
IsYearOf policy shape t = (years : ℕ) × IsCompleted policy.issued (pos 18627) years × (t ≡ min years shape.n)

-- a policy has the bounds of its shape's reserve, and one that the table doesn't fit has none
abbrev pub IsWorth : Drawn → Rates → Option (ℕ × ℕ) → Type 0
IsWorth policy table (Some bounds) =
    (shape : Shape) × (shape_by policy.plan policy.age policy.years table ≡ Ok shape)
    × ((t : ℕ) × IsYearOf policy shape t
    × (bounds ≡ rounded (cover_of table shape 400) (cap_of table shape.age 400) policy.amount t))
IsWorth policy table None = IsErr (shape_by policy.plan policy.age policy.years table)

-- a sum that stands still at its type's end
abbrev pub plus_at_most : ℕ → ℕ → ℕ
plus_at_most sum more = min (sum + more) (2 ^ 64 - 1)

-- the totals have one more policy: its bounds are added, or it is counted as one without a value
abbrev pub Adds : Totals → Totals → Option (ℕ × ℕ) → Type 0
Adds old new (Some bounds) =
    (new.policies ≡ plus_at_most old.policies 1) × (new.unvalued ≡ old.unvalued)
    × (new.lower ≡ plus_at_most old.lower bounds.0) × (new.upper ≡ plus_at_most old.upper bounds.1)
Adds old new None =
    (new.policies ≡ plus_at_most old.policies 1) × (new.unvalued ≡ plus_at_most old.unvalued 1)
    × (new.lower ≡ old.lower) × (new.upper ≡ old.upper)

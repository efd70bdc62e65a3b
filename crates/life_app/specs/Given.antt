-- What the headline is given of a row of a basis: what it makes of a policy
use Rattle.std.specs.Prelude.{ℕ}
use Rattle.life_app.specs.Names.{Dated, Policy, Fraction, NotValued}

-- By a row of a basis: a policy is covered for so many years, and this is its exact reserve per unit of amount at year t; or
-- it has none, for this reason.
pub record Reserves : Type 1 where
  pub Is : Policy → Dated → (years t : ℕ) → Fraction → Type 0
  pub HasNone : Policy → Dated → NotValued → Type 0

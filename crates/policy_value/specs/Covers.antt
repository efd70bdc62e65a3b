-- The cover of a policy by a table of either kind, and the cover that limits its net premium.
use Rattle.std.specs.Prelude.{ℕ, ◌+◌, ◌<◌}
use Rattle.policy_value.specs.Names.{Shape, IsRateOf, table_along, Cover, cover_of, cap_shape, AnyTable}

-- by the rates of the age at issue
abbrev pub cover_along : AnyTable → Shape → ℕ → Cover
cover_along table shape bp = cover_of (table_along table shape.age) shape bp

-- the cap is that of a policy that is issued a year later, by the rates of that age at issue
abbrev pub cap_along : AnyTable → ℕ → ℕ → Cover
cap_along table age bp = let next = table_along table (age + 1) in cover_of next (cap_shape next age) bp

-- the rate of each year is that for its age at issue and its duration
pub record AreByDuration (table : AnyTable) (age : ℕ) (c cap : Cover) : Type 0 where
  pub own : (k : ℕ) → k < c.n → IsRateOf table age k (c.rates k)
  pub next : (k : ℕ) → k < cap.n → IsRateOf table (age + 1) k (cap.rates k)

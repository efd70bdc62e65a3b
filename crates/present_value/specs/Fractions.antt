use Rattle.std.specs.Prelude.{ℕ, ◌+◌, ◌-◌, ◌*◌, ◌<◌, ◌≤◌, nat_le, if◌then◌else◌}

-- a fraction of whole numbers of any size; its value is the quotient, if the denominator isn't 0
pub record Fraction : Type 0 where
  pub num : ℕ
  pub den : ℕ

unfoldable pub whole : ℕ → Fraction
whole n = record { num = n; den = 1 }

unfoldable pub plus : Fraction → Fraction → Fraction
plus a b = record { num = a.num * b.den + b.num * a.den; den = a.den * b.den }

-- the excess of a over b, which is 0 if b is greater
unfoldable pub less : Fraction → Fraction → Fraction
less a b = record { num = a.num * b.den - b.num * a.den; den = a.den * b.den }

unfoldable pub times : Fraction → Fraction → Fraction
times a b = record { num = a.num * b.num; den = a.den * b.den }

unfoldable pub over : Fraction → Fraction → Fraction
over a b = record { num = a.num * b.den; den = a.den * b.num }

-- the lesser of two, compared by cross-multiplying
unfoldable pub lesser : Fraction → Fraction → Fraction
lesser a b = if nat_le (a.num * b.den) (b.num * a.den) then a else b

-- low ≤ scale * value ≤ high, by cross-multiplying
pub record Between (low high scale : ℕ) (value : Fraction) : Type 0 where
  pub proper : 0 < value.den
  pub above : low * value.den ≤ scale * value.num
  pub below : scale * value.num ≤ high * value.den

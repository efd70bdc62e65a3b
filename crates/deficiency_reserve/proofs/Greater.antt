use Rattle.std.specs.Prelude.{◌*◌, nat_le, if◌then◌else◌}
use Rattle.present_value.specs.Fractions.{Fraction}

-- the greater of two, compared by cross-multiplying
unfoldable pub greater : Fraction → Fraction → Fraction
greater a b = if nat_le (a.num * b.den) (b.num * a.den) then b else a

use Rattle.std.specs.Prelude.{ℕ, ◌+◌, ◌-◌, ◌/◌}

-- how many units of a rounded value make 1
abbrev pub UNIT : ℕ
UNIT = 10000000000000000

-- a quotient rounded down, and rounded up
abbrev pub down : ℕ → ℕ → ℕ
down n d = n / d

abbrev pub up : ℕ → ℕ → ℕ
up n d = (n + (d - 1)) / d

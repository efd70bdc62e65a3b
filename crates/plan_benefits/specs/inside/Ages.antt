use Rattle.std.specs.Prelude.{ℕ, ◌+◌, ◌&&◌, Bool, nat_lt, nat_le, length}
use Rattle.rate_table.specs.Rates.{Rates}

-- a table holds an age
abbrev pub has_age : Rates → ℕ → Bool
has_age table age = nat_le table.first_age age && nat_lt age (table.first_age + length table.rates)

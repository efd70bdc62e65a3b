-- How large one policy's part of a total may be.
use Rattle.std.specs.Prelude.{ℕ}

-- the most that one policy adds to a sum: an amount of 10^10 cents, in 10^-16 of a cent
abbrev pub MOST_PART : ℕ
MOST_PART = 100000000000000000000000000

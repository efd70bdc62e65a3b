-- How many watchers there may be
use Rattle.std.specs.Prelude.{ℕ}

abbrev pub most_watchers : ℕ
most_watchers = 16

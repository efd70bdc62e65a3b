-- How much may be asked for at once
use Rattle.std.specs.Prelude.{ℕ}

-- 4 GiB, in bytes
abbrev pub most_bytes : ℕ
most_bytes = 4294967296

-- 4 KiB, in bytes: what a single value may take that gets a place of its own
abbrev pub most_boxed : ℕ
most_boxed = 4096

-- the fields of a row: one more than a file of 16 MiB can have
abbrev pub most_fields : ℕ
most_fields = 16777217

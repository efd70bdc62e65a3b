-- What a disk held at first.
use Rattle.std.specs.Prelude.{ℕ, List, Option, None, Some, Vec}
use Rattle.std.specs.declared.alloc.Global.{Global}

-- The bytes at first: those that were kept before the first write; without a write, those of now.
abbrev pub first_bytes : Option (Vec ℕ Global) → Vec ℕ Global → List ℕ
first_bytes None bytes = bytes.items
first_bytes (Some kept) bytes = kept.items

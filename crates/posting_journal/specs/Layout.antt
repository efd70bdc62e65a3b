-- Where the parts of a journal are in its file. The code calls a commit byte a gate: it is open if it is 1, and
-- closed otherwise.
--
--   bytes          what they hold
--   0              the gate of the creation
--   1 to 16        the header: LIFEJRNL, the version 1, the size 64 of a body, four zero bytes
--   17 + 65 n      the gate of record n, counted from 0
--   18 + 65 n ..   the body of record n, 64 bytes
use Rattle.std.specs.Prelude.{ℕ, ◌+◌, ◌*◌, List, [], ◌∷◌, ◌++◌}

-- LIFEJRNL, the version 1 and the size 64 of a body, both in two bytes, big endian, and four zero bytes
abbrev pub header : List ℕ
header = 76 ∷ 73 ∷ 70 ∷ 69 ∷ 74 ∷ 82 ∷ 78 ∷ 76 ∷ 0 ∷ 1 ∷ 0 ∷ 64 ∷ 0 ∷ 0 ∷ 0 ∷ 0 ∷ []

-- the records that are read at once, at most
abbrev pub most_in_piece : ℕ
most_in_piece = 1008

-- a journal without records: byte 0 says that it is made, and its first gate is closed
abbrev pub empty_journal : List ℕ
empty_journal = 1 ∷ header ++ 0 ∷ []

-- the place of the gate of a record
abbrev pub gate_place : ℕ → ℕ
gate_place n = 17 + 65 * n

-- the place of the first byte of its body
abbrev pub body_place : ℕ → ℕ
body_place n = gate_place n + 1

-- The file of a checkpoint. Byte 0 is its gate, which is open exactly where it is 1; bytes 1 to 16 are the header; up to
-- byte 63 stand the figures; and from byte 64 on stand the policies in order of issue, 48 bytes each. Every number has its
-- high byte first.
use Rattle.std.specs.Prelude.{◌≡◌, ℕ, List, [], ◌∷◌, ◌++◌, length, take, drop, replicate}
use Rattle.checkpoint_store.specs.Names.{w32, w64, to_be_bytes, cast_unsigned, flat_map, Policy, InForce, Lapsed, Claimed, Matured, Expired, Settled, PaidUp, Status, plan_byte}
use Rattle.money_ledgers.specs.declared.ledger.Ledger.{Ledger}
use Rattle.checkpoint_store.specs.declared.snapshot.Snapshot.{Snapshot}

-- LIFECHKP, the version 1 and the size 48 of a policy, both in two bytes, and four zero bytes
abbrev pub checkpoint_header : List ℕ
checkpoint_header = 76 ∷ 73 ∷ 70 ∷ 69 ∷ 67 ∷ 72 ∷ 75 ∷ 80 ∷ 0 ∷ 1 ∷ 0 ∷ 48 ∷ 0 ∷ 0 ∷ 0 ∷ 0 ∷ []

-- the byte of a status
abbrev pub status_byte : Status → ℕ
status_byte InForce = 1
status_byte Lapsed = 2
status_byte Claimed = 3
status_byte Matured = 4
status_byte Expired = 5
status_byte Settled = 6
status_byte PaidUp = 7

-- The number in four bytes; plan, age, years, premiums paid and status, a byte each, and three zeros; the days of issue
-- and of the last command in four bytes, in two's complement; the amount, the premium and what is outstanding in eight;
-- and four zeros.
unfoldable pub policy_bytes : Policy → List ℕ
policy_bytes p =
    to_be_bytes w32 p.id
    ++ (plan_byte p.plan ∷ p.age ∷ p.years ∷ p.paid ∷ status_byte p.status ∷ 0 ∷ 0 ∷ 0 ∷ [])
    ++ to_be_bytes w32 (cast_unsigned w32 p.issued) ++ to_be_bytes w32 (cast_unsigned w32 p.last)
    ++ to_be_bytes w64 p.amount ++ to_be_bytes w64 p.premium ++ to_be_bytes w64 p.outstanding
    ++ replicate 4 0

-- the position, the place of the upgrade or 0, and the number of policies, in four bytes
unfoldable pub position_bytes : (position upgrade policies : ℕ) → List ℕ
position_bytes position upgrade policies = to_be_bytes w32 position ++ to_be_bytes w32 upgrade ++ to_be_bytes w32 policies

-- the balances of the four accounts in eight bytes, in two's complement, and three zeros
unfoldable pub balance_bytes : Ledger → List ℕ
balance_bytes ledger =
    to_be_bytes w64 (cast_unsigned w64 ledger.cash) ++ to_be_bytes w64 (cast_unsigned w64 ledger.premiums)
    ++ to_be_bytes w64 (cast_unsigned w64 ledger.incurred) ++ to_be_bytes w64 (cast_unsigned w64 ledger.payable)
    ++ replicate 3 0

-- all that stands between the gate and the policies
abbrev pub front_bytes : Snapshot → List ℕ
front_bytes s = (checkpoint_header ++ position_bytes s.position s.upgrade (length s.book)) ++ balance_bytes s.ledger

-- all that stands behind the gate
abbrev pub snapshot_bytes : Snapshot → List ℕ
snapshot_bytes s = front_bytes s ++ flat_map policy_bytes s.book

-- these bytes stand in the file from byte 1 on
abbrev pub StandBehindGate : List ℕ → List ℕ → Type 0
StandBehindGate part file = take (length part) (drop 1 file) ≡ part

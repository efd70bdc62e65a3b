-- The body of a journal's record: 64 bytes that spell one command
use Rattle.std.specs.Prelude.{◌≡◌, ◌==◌, ◌++◌, if◌then◌else◌, List, [], ◌∷◌, ℕ, ℤ, pos, replicate, Option, Some, None}
use Rattle.record_codec.specs.Names.{w32, w64, to_be_bytes, cast_unsigned, Command, Issue, Premium, Alter, Lapse, Reinstate, Claim, Settle, Mature, PaidUp, Upgrade, Plan, Term, Whole, Endowment, Limited, IsValid}

-- the byte of a plan
abbrev pub plan_byte : Plan → ℕ
plan_byte Term = 1
plan_byte Whole = 2
plan_byte Endowment = 3
plan_byte Limited = 4

-- the plan of a byte, where it has one
abbrev pub plan_of_byte : ℕ → Option Plan
plan_of_byte byte =
    if byte == 1 then Some Term else if byte == 2 then Some Whole
    else if byte == 3 then Some Endowment else if byte == 4 then Some Limited else None

-- kind, plan, age and years, a byte each; then the id and the day in four bytes, the day in two's complement; then the amount
-- and the premium in eight; each with its high byte first; and 36 zeros
abbrev pub body_of : (kind plan age years id : ℕ) (day : ℤ) (amount premium : ℕ) → List ℕ
body_of kind plan age years id day amount premium =
    ((kind ∷ plan ∷ age ∷ years ∷ []) ++ to_be_bytes w32 id ++ to_be_bytes w32 (cast_unsigned w32 day)
    ++ to_be_bytes w64 amount ++ to_be_bytes w64 premium)
    ++ replicate 36 0

-- the body of a command, which is 0 in each place for which its kind has nothing
unfoldable pub spelling_of : Command → List ℕ
spelling_of (Issue id day plan age years amount premium) = body_of 1 (plan_byte plan) age years id day amount premium
spelling_of (Premium id day amount) = body_of 2 0 0 0 id day amount 0
spelling_of (Alter id day amount premium) = body_of 3 0 0 0 id day amount premium
spelling_of (Lapse id day) = body_of 4 0 0 0 id day 0 0
spelling_of (Reinstate id day amount) = body_of 5 0 0 0 id day amount 0
spelling_of (Claim id day) = body_of 6 0 0 0 id day 0 0
spelling_of (Settle id day amount) = body_of 7 0 0 0 id day amount 0
spelling_of (Mature id day) = body_of 8 0 0 0 id day 0 0
spelling_of Upgrade = body_of 9 0 0 0 0 (pos 0) 0 0
spelling_of (PaidUp id day amount) = body_of 10 0 0 0 id day amount 0

-- the body spells the command, which is valid
pub record IsSpelling (body : List ℕ) (command : Command) : Type 0 where
  pub valid : IsValid command
  pub spelled : body ≡ spelling_of command

-- What the texts of the program distinguish
use Rattle.std.specs.Prelude.{◌≡◌, ℕ, ◌<◌, ◌^◌, ℤ, List, length}
use Rattle.life_app.specs.Names.{AllByRecursion, Command, Reply, Accepted, Refused, Faulted, Blank, Row, Bounds, Word, id_of, Worth, Wording}

-- numbers below 2^64, which the texts hold
abbrev pub IsPlainReply : Reply → Type 0
IsPlainReply (Accepted position) = position < 2 ^ 64
IsPlainReply _ = Unit {0}

abbrev pub IsPlainWorth : Worth → Type 0
IsPlainWorth (Bounds lo hi) = (lo < 2 ^ 64) × (hi < 2 ^ 64)
IsPlainWorth (Word why) = Unit {0}
IsPlainWorth _ = ⊥

abbrev pub IsPlainRow : Row → Type 0
IsPlainRow row = (row.id < 2 ^ 64) × (row.t < 2 ^ 64) × IsPlainWorth row.worth

-- both replies are to postings and of one kind, and if accepted at one position
abbrev pub AreAlike : Reply → Reply → Type 0
AreAlike (Accepted position) (Accepted other) = position ≡ other
AreAlike (Refused refusal) (Refused other) = Unit {0}
AreAlike (Faulted count) (Faulted other) = Unit {0}
AreAlike Blank Blank = Unit {0}
AreAlike _ _ = ⊥

-- The line of a posting states the lane, the policy, and what became of it; that of a valuation states its position
-- and all its rows.
pub record TellsApart (wording : Wording) : Type 0 where
  pub posting : (clerk other : ℕ) (command another : Command) (reply answer : Reply) → clerk < 2 ^ 64 → other < 2 ^ 64
      → id_of command < 2 ^ 64 → id_of another < 2 ^ 64 → IsPlainReply reply → IsPlainReply answer
      → AreAlike reply reply → AreAlike answer answer → wording.posting clerk command reply ≡ wording.posting other another answer
      → (clerk ≡ other) × (id_of command ≡ id_of another) × AreAlike reply answer
  pub rows : (clerk other : ℕ) (on day : ℤ) (position place : ℕ) (rows others : List Row) → clerk < 2 ^ 64 → other < 2 ^ 64
      → position < 2 ^ 64 → place < 2 ^ 64 → length rows < 2 ^ 64 → length others < 2 ^ 64
      → AllByRecursion IsPlainRow rows → AllByRecursion IsPlainRow others
      → wording.block clerk on position rows ≡ wording.block other day place others → (position ≡ place) × (rows ≡ others)

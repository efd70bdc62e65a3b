-- How many turns callers took, and how many of these were counted
use Rattle.std.specs.Prelude.{◌≡◌, ℕ, ◌+◌, ◌*◌, ◌^◌, ◌<◌, ◌≤◌, Bool, length, sum_by, count_by}
use Rattle.policy_types.specs.declared.entry.Entry.{Entry}
use Rattle.turn_lock.specs.Passes.{Holding, pages}

-- the turns that a pass knows of as its caller's or as those of the callers whose passes were taken back into it
abbrev pub turns_known : {Opening : Type 0} → Holding Opening → ℕ
turns_known pass = sum_by (λ page. length page.1) (pages pass)

-- and those of them whose entries are counted
abbrev pub counted_of : {Opening : Type 0} → (Entry → Bool) → Holding Opening → ℕ
counted_of counts pass = sum_by (λ page. count_by counts page.1) (pages pass)

module _ {Opening : Type 0} where
  -- one caller took so many turns, of which so many were counted
  pub record Takes (counts : Entry → Bool) (turns count : ℕ) (old new : Holding Opening) : Type 0 where
    pub turnstile : new.turnstile ≡ old.turnstile
    pub opening : new.opening ≡ old.opening
    pub shares : new.shares ≡ old.shares
    pub ended : new.ended ≡ old.ended
    pub left : new.left + turns ≡ old.left
    pub few : count ≤ turns
    pub made : length new.made ≡ length old.made + turns
    pub counted : count_by counts new.made ≡ count_by counts old.made + count

  -- several callers with passes of their own, which were taken back, took so many in all
  pub record AllTake (counts : Entry → Bool) (turns count : ℕ) (old new : Holding Opening) : Type 0 where
    pub turnstile : new.turnstile ≡ old.turnstile
    pub opening : new.opening ≡ old.opening
    pub shares : new.shares ≡ old.shares
    pub made : turns_known new ≡ turns_known old + turns
    pub counted : counted_of counts new ≡ counted_of counts old + count

  -- a pass has what so many callers need who take so many turns each, and who get theirs by halving it again and again
  pub record HasTurnsLeft (turns callers : ℕ) (pass : Holding Opening) : Type 0 where
    pub few : turns < 2 ^ 32
    pub own : turns ≤ pass.left
    pub halved : callers * 2 ^ 34 ≤ pass.left + 2 + 2 ^ 34
    pub shared : 4 * callers ≤ pass.shares + 5

-- What a caller's turns do to its pass
use Rattle.std.specs.Prelude.{◌≡◌, ◌+◌, List, ◌++◌, length, map}
use Rattle.snapshot_value.specs.Names.{Placed, turns_of, Holding}
use Rattle.turn_lock.specs.History.{StartsWith}

-- The caller took these turns, in order, each of which is given with its place in the history. The pass has seen what
-- it had seen and more, of which exactly these turns are the caller's own. It has one turn less left for each of
-- them, and everything else stays.
pub record Grows {Opening : Type 0} (old new : Holding Opening) (placed : List Placed) : Type 0 where
  pub turnstile : new.turnstile ≡ old.turnstile
  pub opening : new.opening ≡ old.opening
  pub caller : new.caller ≡ old.caller
  pub shares : new.shares ≡ old.shares
  pub ended : new.ended ≡ old.ended
  pub left : new.left + length placed ≡ old.left
  pub made : new.made ≡ old.made ++ map (λ (turn : Placed). turn.1) placed
  pub begins : StartsWith new.seen old.seen
  pub turns : turns_of new.seen old.caller ≡ turns_of old.seen old.caller ++ placed

-- The policies so far stand at the start of the piece.
use Rattle.checkpoint_store.proofs.Names.{◌≡◌, ◌-◌, ◌*◌, ◌≤◌, length, take, flat_map, policy_bytes}
use Rattle.checkpoint_store.proofs.policies.fill.Given as goal

abbrev pub invariant-loop-done : goal.invariant-loop-done
invariant-loop-done l = record {
  within : l.done ≤ length l.policies;
  spelled : take (48 * l.done) l.piece ≡ flat_map policy_bytes (take l.done l.policies);
}

abbrev pub decreases-loop-done : goal.decreases-loop-done
decreases-loop-done l = length l.policies - l.done

-- The policies so far stand behind the front, and the gate stays.
use Rattle.checkpoint_store.proofs.Names.{◌≡◌, ◌+◌, ◌-◌, ◌*◌, ◌≤◌, ◌++◌, ℕ, List, length, take, flat_map, policy_bytes, StandBehindGate, AreShut, StaysShut}
use Rattle.checkpoint_store.proofs.saving.write_policies.Given as goal

abbrev pub invariant-loop-done : goal.invariant-loop-done
invariant-loop-done g l = record {
  within : l.done ≤ length l.policies;
  count : g.E.Disk.faults l.disk ≡ g.E.Disk.faults l.fn.disk;
  honesty : g.E.Disk.honest l.disk → g.E.Disk.honest l.fn.disk;
  long : g.E.Disk.honest l.disk → 64 + 48 * l.done ≤ length (g.E.Disk.reads l.disk);
  longer : g.E.Disk.honest l.disk → length (g.E.Disk.reads l.fn.disk) ≤ length (g.E.Disk.reads l.disk);
  written : (front : List ℕ) → g.E.Disk.honest l.disk → length front ≡ 63 → StandBehindGate front (g.E.Disk.reads l.fn.disk)
      → StandBehindGate (front ++ flat_map policy_bytes (take l.done l.policies)) (g.E.Disk.reads l.disk);
  shut : g.E.Disk.honest l.disk → AreShut g.E.Disk l.fn.disk → StaysShut g.E.Disk l.fn.disk l.disk;
}

abbrev pub decreases-loop-done : goal.decreases-loop-done
decreases-loop-done g l = length l.policies - l.done

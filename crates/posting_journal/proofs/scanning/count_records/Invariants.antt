-- The records up to this one stand, and nothing was written.
use Rattle.posting_journal.proofs.Names.{◌≡◌, ◌-◌, ◌<◌, ◌≤◌, length, gate_place, LooksOn, AreOpen}
use Rattle.posting_journal.specs.Pieces.{IsPartOf}
use Rattle.posting_journal.proofs.scanning.count_records.Given as goal

abbrev pub invariant-loop-n : goal.invariant-loop-n
invariant-loop-n g l = record {
  few : l.n ≤ 4000000;
  within : gate_place l.n < l.size;
  count : g.D.Disk.faults l.disk ≡ g.D.Disk.faults l.fn.disk;
  honesty : g.D.Disk.honest l.disk → g.D.Disk.honest l.fn.disk;
  told : g.D.Disk.honest l.fn.disk → l.size ≡ length (g.D.Disk.reads l.fn.disk);
  looks : g.D.Disk.honest l.disk → LooksOn g.D.Disk l.fn.disk l.disk;
  part : g.D.Disk.honest l.disk → IsPartOf l.piece (g.D.Disk.reads l.disk);
  open_so_far : g.D.Disk.honest l.disk → AreOpen (g.D.Disk.reads l.fn.disk) l.n;
}

abbrev pub decreases-loop-n : goal.decreases-loop-n
decreases-loop-n g l = 4000000 - l.n

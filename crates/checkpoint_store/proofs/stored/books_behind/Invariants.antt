-- The policies so far stand in the books.
use Rattle.checkpoint_store.proofs.Names.{◌≡◌, ◌-◌, ◌≤◌, LooksOn, AreBegun, AreUpTo}
use Rattle.checkpoint_store.proofs.stored.books_behind.Given as goal

abbrev pub invariant-loop-done : goal.invariant-loop-done
invariant-loop-done g l = record {
  within : l.done ≤ l.front.policies;
  begun : AreBegun l.front l.done l.books;
  quiet : g.E.Disk.faults l.disk ≡ g.E.Disk.faults l.fn.disk;
  honesty : g.E.Disk.honest l.disk → g.E.Disk.honest l.fn.disk;
  looks : g.E.Disk.honest l.disk → LooksOn g.E.Disk l.fn.disk l.disk;
  next : g.E.Disk.honest l.disk → AreUpTo (g.E.Disk.reads l.fn.disk) l.front l.done l.books;
}

abbrev pub decreases-loop-done : goal.decreases-loop-done
decreases-loop-done g l = l.front.policies - l.done

-- The policies so far were added.
use Rattle.checkpoint_store.proofs.Names.{ℕ, ◌+◌, ◌≤◌, List, Front, AreBegun, AreBytesOf, AreUpTo}
use Rattle.checkpoint_store.proofs.numbered.NumberedBooks.add_all.Given as goal

abbrev pub invariant-loop-index : goal.invariant-loop-index
invariant-loop-index l = record {
  begun : (f : Front) (first : ℕ) → AreBegun f first l.fn.self → AreBegun f (first + l.index) l.self;
  next : (file : List ℕ) (f : Front) (first : ℕ) → first + l.many ≤ f.policies → AreBytesOf file first l.many l.bytes
      → AreBegun f first l.fn.self → AreUpTo file f first l.fn.self → AreUpTo file f (first + l.index) l.self;
}

use Rattle.snapshot_value.proofs.Names.{PassFacts, IsOfficeHistory, KeepsPins, HasReadFirst}
use Rattle.snapshot_value.proofs.reading.read_parts.Given as goal

abbrev pub invariant-loop-k : goal.invariant-loop-k
invariant-loop-k g l = record {
  facts : PassFacts IsOfficeHistory l.pass;
  pins : KeepsPins l.fn.pass l.pass;
  read : HasReadFirst (g.T.Reader.has_read l.fn.plan l.reader) l.pin l.k l.fn.pass l.pass;
}

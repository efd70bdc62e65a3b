-- So far the bytes are those that the source gave, and a prefix of what it had left; each read gave at least one, and
-- the count of reads is right.
use Rattle.std.proofs.Common.{◌≡◌, ◌-◌, ◌+◌, ◌≤◌, ◌++◌, vec_len}
use Rattle.std.specs.Io.KnownBytes.{Consumes}
use Rattle.outside_io.specs.Streams.{StillTells}
use Rattle.outside_io.proofs.reading.read_all_counted.Given as goal

abbrev pub invariant-loop-bytes : goal.invariant-loop-bytes
invariant-loop-bytes g l = record {
  within : vec_len l.bytes ≤ l.room;
  held : g.S.Source.faults l.source ≡ g.S.Source.faults l.initial.source;
  came : Consumes (g.S.Source.left l.initial.source) (g.S.Source.left l.source) l.bytes.items;
  given : g.S.Source.given l.source ≡ g.S.Source.given l.initial.source ++ l.bytes.items;
  tells : StillTells (g.S.Source.left l.initial.source) (g.S.Source.left l.source);
  turns : l.steps ≤ l.initial.steps + vec_len l.bytes;
}

abbrev pub decreases-loop-bytes : goal.decreases-loop-bytes
decreases-loop-bytes g l = l.room - vec_len l.bytes

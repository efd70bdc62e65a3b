use Rattle.std.proofs.Common.{◌≡◌, ◌+◌, ◌<◌}
use Rattle.measure.proofs.tables.repeat.Given as goal

abbrev pub invariant-loop-left : goal.invariant-loop-left
invariant-loop-left g l = record {
  count : g.R.Reading.readings l.reading + l.left ≡ g.R.Reading.readings l.fn.reading + l.times;
  read : l.left < l.times → g.R.Reading.is_read l.reading;
}

abbrev pub decreases-loop-left : goal.decreases-loop-left
decreases-loop-left g l = l.left

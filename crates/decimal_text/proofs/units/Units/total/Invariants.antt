use Rattle.std.proofs.Common.{◌≡◌, ◌*◌, ◌^◌, min}
use Rattle.decimal_text.proofs.units.Units.total.Given as goal

abbrev pub invariant-loop : goal.invariant-loop
invariant-loop l = l.total ≡ min (l.self.count * 10 ^ l.counter) 1000000001

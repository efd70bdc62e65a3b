use Rattle.std.proofs.Common.{◌-◌, ◌≤◌, true}
use Rattle.measure.specs.Turns.{Takes}
use Rattle.measure.proofs.counter.TicksLaneCounter.run.Given as goal

abbrev pub invariant-loop-done : goal.invariant-loop-done
invariant-loop-done g l =
    record {
      few : l.done ≤ l.turns;
      takes : Takes (λ _. true) l.done l.done l.fn.pass l.pass;
    }

abbrev pub decreases-loop-done : goal.decreases-loop-done
decreases-loop-done g l = l.turns - l.done

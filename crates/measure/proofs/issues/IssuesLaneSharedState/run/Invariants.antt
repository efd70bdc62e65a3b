use Rattle.std.proofs.Common.{◌-◌, ◌≤◌}
use Rattle.measure.specs.Posted.{accepts}
use Rattle.measure.specs.Turns.{Takes}
use Rattle.measure.proofs.issues.IssuesLaneSharedState.run.Given as goal

abbrev pub invariant-loop-done : goal.invariant-loop-done
invariant-loop-done g l =
    record {
      few : l.done ≤ l.self.each;
      some : l.accepted ≤ l.done;
      takes : Takes accepts l.done l.accepted l.fn.pass l.pass;
    }

abbrev pub decreases-loop-done : goal.decreases-loop-done
decreases-loop-done g l = l.self.each - l.done

-- An office that was opened with one end of a ring of moments, and the other end of that ring
use Rattle.std.specs.Prelude.{ℕ}
use Rattle.std.specs.Global.{Global}
use Rattle.script_run.specs.Names.{Ghosts, Holding, OfficeOpening}
use Rattle.rtrb.specs.declared.AnyItems.{AnyItems}
use Rattle.rtrb.specs.declared.consumer.Consumer.{Consumer}
use Rattle.moment_ring.specs.Ends.{IsNewRing}
use Rattle.shared_office.specs.Starting.{HasStartedOffice}

-- the office was opened with the other end of this one, and nothing has gone through their ring yet
pub record StartsHeard {D W : Type 0} (g : Ghosts D) (old : D) (watchers : W) (inlet : Consumer ℕ Global AnyItems)
    (pass : Holding (OfficeOpening D W)) : Type 0 where
  pub started : HasStartedOffice g old watchers pass
  pub ring : IsNewRing started.outlet inlet

-- What calls say of the disk's faults.
use Rattle.std.specs.Prelude.{◌≡◌, ◌≤◌, Result, IfErr, OnOk}
use Rattle.posting_journal.specs.Names.{HasDiskCause, Rose, Ghosts}
use Rattle.posting_journal.specs.declared.faults.DiskFault.{DiskFault}

-- A call fails only if the disk's count of faults rose, and returns the count that then stands; a call that succeeds
-- doesn't change the count. A disk stays honest, or stays dishonest.
pub record TellsFaults {D T : Type 0} (g : Ghosts D) (old new : D) (result : Result T DiskFault) : Type 0 where
  pub later : g.faults old ≤ g.faults new
  pub quiet : OnOk result (g.faults new ≡ g.faults old)
  pub fault : IfErr result (λ fault. (fault.count ≡ g.faults new) × Rose (g.faults old) (g.faults new))
  pub honesty : g.honest new → g.honest old

-- A step of a call fails only if the count rose, and doesn't change the count if it succeeds. A disk stays honest, or
-- stays dishonest.
pub record TellsFailure {D T E : Type 0} (g : Ghosts D) (old new : D) (result : Result T E) : Type 0 where
  pub disk : HasDiskCause (g.faults old) (g.faults new) result
  pub honesty : g.honest new → g.honest old

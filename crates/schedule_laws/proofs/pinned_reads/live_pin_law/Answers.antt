use Rattle.policy_machine.proofs.HistoryGrowth.{PinsHold-legal}
use Rattle.schedule_laws.proofs.pinned_reads.live_pin_law.Goals as goal

pub returns : goal.returns
returns c = λ opening history pin position policies legal live.
    (PinsHold-legal opening history legal.due).pins_in pin position policies live

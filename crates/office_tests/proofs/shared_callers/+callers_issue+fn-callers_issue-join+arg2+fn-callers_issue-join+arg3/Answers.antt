use denote.Param.Send.{sendable}
use Rattle.shared_office.proofs.Crossing.{crosses_office}
use Rattle.office_tests.proofs.shared_callers.+callers_issue+fn-callers_issue-join+arg2+fn-callers_issue-join+arg3.Goals as goal

pub join-pass-requires-send-F : goal.join-pass-requires-send-F
join-pass-requires-send-F g t c κs within = search (crosses_office, sendable) depth 20

pub join-pass-requires-send-A : goal.join-pass-requires-send-A
join-pass-requires-send-A g t c κs within = search (crosses_office, sendable) depth 20

use denote.Param.Send.{sendable}
use Rattle.shared_office.proofs.Crossing.{crosses_office}
use Rattle.office_tests.proofs.shared_watcher_tests.two_pay.Goals as goal

pub join-pass-requires-send-F : goal.join-pass-requires-send-F
join-pass-requires-send-F g c κs within = search (crosses_office, sendable) depth 20

pub join-pass-requires-send-A : goal.join-pass-requires-send-A
join-pass-requires-send-A g c κs within = search (crosses_office, sendable) depth 20

use denote.Param.Send.{IsSync, sendable}
use Rattle.std.proofs.sync.atomic.AtomicU64.TheSendSync as atomic
use Rattle.std.specs.contracts.sync.atomic.AtomicBool.{the_row}
use Rattle.shared_office.proofs.Crossing.{crosses_office}
use Rattle.office_tests.proofs.shared_order_tests.put_off.Goals as goal

flag_crosses : IsSync the_row
flag_crosses = search (atomic.the_sync, sendable) depth 20

pub join-pass-requires-send-F : goal.join-pass-requires-send-F
join-pass-requires-send-F g c κs within = search (crosses_office, flag_crosses, sendable) depth 20

pub join-pass-requires-send-A : goal.join-pass-requires-send-A
join-pass-requires-send-A g c κs within = search (crosses_office, sendable) depth 20

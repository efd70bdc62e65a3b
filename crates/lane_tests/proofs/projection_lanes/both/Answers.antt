use denote.Param.SendFields.{declared_send, as_row_send}
use denote.Param.Send.{sendable}
use Rattle.std.proofs.Crossing.{crosses, send}
use Rattle.shared_office.proofs.Crossing.{crosses_office}
use Rattle.snapshot_value.proofs.Crossing.{basis_crosses, six_send}
use Rattle.lane_tests.proofs.projection_lanes.both.Goals as goal

pub join-pass-requires-send-F : goal.join-pass-requires-send-F
join-pass-requires-send-F g c κs within =
    let disk = c.type_bounds.send-D in
    let watchers = c.type_bounds.send-W in
    let waits = c.type_bounds.sync-R in
    search (crosses_office, basis_crosses, send, six_send, declared_send, as_row_send, sendable, crosses) depth 20

pub join-pass-requires-send-A : goal.join-pass-requires-send-A
join-pass-requires-send-A g c κs within = search (crosses_office, sendable, crosses) depth 20

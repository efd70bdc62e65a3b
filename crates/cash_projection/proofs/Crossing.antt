-- A worker of a projection may be handed to a thread.
use denote.Param.SendFields.{declared_send, as_row_send}
use denote.Param.Send.{IsSend, sendable}
use denote.Ref.{NamedLft}
use Rattle.std.proofs.Crossing.{crosses}
use Rattle.snapshot_value.proofs.Crossing.{basis_crosses, four_send}
use Rattle.cash_projection.specs.contracts.projector.Projector as projector

pub projector_crosses : (lent : NamedLft) → IsSend (projector.the_row lent)
projector_crosses lent = search (four_send, basis_crosses, declared_send, as_row_send, sendable, crosses) depth 20 fits 50000

-- An office may be shared by threads, and a pass may go to another, where the disk and the watchers may go to another. A
-- `join` whose closures hold them lists `crosses_office` in the answers to its `Send` goals, for which `search` alone takes too long.
use denote.RattleType.{RattleType}
use denote.Param.Send.{IsSend, IsSync, sendable}
use Rattle.std.proofs.Crossing.{crosses}
use Rattle.atomic_table.proofs.shared.Shared.TheSendSync as table
use Rattle.rtrb.proofs.end.End.TheSendSync as ring
use Rattle.office_state.proofs.accepted_list.AcceptedList.TheSendSync as accepted
use Rattle.atomic_table.proofs.send_lease.SendLease.TheSendSync as lease
use Rattle.atomic_table.proofs.shared.Seat.TheSendSync as seat
use Rattle.shared_office.proofs.Names.{Ghosts, WatcherGhosts}
use Rattle.turn_lock.specs.declared.stands.Stands.{Ghosts as StandsGhosts}
use Rattle.turn_lock.specs.contracts.pass.Pass as pass
use Rattle.turn_lock.specs.contracts.turnstile.Turnstile as turnstile
use Rattle.shared_office.specs.contracts.state.SharedState.{the_row}

pub state_crosses : (D W : RattleType) (g : Ghosts D.Denot) (w : WatcherGhosts W.Denot) → IsSend D → IsSend W → IsSend (the_row D W g w)
state_crosses D W g w d s = search (accepted.the_send, ring.the_send, sendable, crosses) depth 100 fits 200000

pub pass_crosses : (T O : RattleType) (g : StandsGhosts T.Denot O.Denot) → IsSend T → IsSend (pass.the_row T O g)
pass_crosses T O g s = search (seat.the_send, sendable, crosses) depth 40

pub office_crosses : (T O : RattleType) (g : StandsGhosts T.Denot O.Denot) → IsSend T → IsSync (turnstile.the_row T O g)
office_crosses T O g s = search (table.the_sync, lease.the_sync, sendable, crosses) depth 30

pub ruleset crosses_office = (state_crosses, pass_crosses, office_crosses)

-- What stops at a record stops after those so far.
use Rattle.std.proofs.Common.{arith}
use Rattle.std.proofs.lemmas.Result.{err_from_is_err_and}
use Rattle.journal_replay.specs.Keeping.{AreKept}
use Rattle.journal_replay.proofs.ReplaySteps.{stops_later}
use Rattle.journal_replay.proofs.replaying.replay.Goals as goal

pub returns-in_err-replay_record-clause-replayed : goal.returns-in_err-replay_record-clause-replayed
returns-in_err-replay_record-clause-replayed g c = λ commands stands counted.
    let was = c.loop-n.invariant in
    let so_far = was.replayed commands stands counted in
    let now = c.in_err-replay_record.ensures in
    let p = err_from_is_err_and c.from_residual.result c.from_residual.ensures.1 in
    rw (p.1, p.2) (stops_later c.args.journal.now commands (g.K.Keeper.stands c.loop-n.keeper) c.loop-n.journal was.stays c.loop-n.n so_far _ now.stays.disk.honesty
    (AreKept g.K.Keeper.stands) g.K.Keeper.follows c.in_err-replay_record.field-0.0 (omega (arith, counted, was.begun)) (now.replayed so_far.later so_far.kept so_far.counted))

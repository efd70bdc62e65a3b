use Rattle.stating_modes.proofs.Names.{subst, Snapshot, between, EndsSaving}
use Rattle.stating_modes.proofs.checkpointing.save_books.Goals as goal

pub returns-in-Ok : goal.returns-in-Ok
returns-in-Ok g c =
    subst
    (λ (s : Snapshot). EndsSaving c.args.store.now c.save.new.store s
    (between g.K.Sink.faults g.K.Sink.written g.K.Sink.pieces c.args.output.now c.save.new.output) c.save.result)
    c.in-Ok.ensures c.save.ensures

use Rattle.stating_modes.proofs.Names.{subst, Ok, EndsText, between}
use Rattle.stating_modes.proofs.EndingSteps.{saving_written}
use Rattle.stating_modes.proofs.checkpointing.save_with_line.Goals as goal

pub returns-in-Ok-clause-ends : goal.returns-in-Ok-clause-ends
returns-in-Ok-clause-ends g c =
    let done = c.in-Ok.ensures in
    saving_written c.args.store.now c.save.new.self c.args.snapshot.now (between g.K.Sink.faults g.K.Sink.written g.K.Sink.pieces c.args.output.now c.write_text.new.output) c.args.line c.write_text.result
    (record {
      tried = record { honesty = done.disk.honesty; moments = done.moments; kept = λ image honest knows left. done.kept image honest knows left };
      quiet = done.disk.quiet;
      saved = λ honest knows image left. done.saved honest knows image left;
    })
    c.requires.line c.write_text.ensures

pub returns-in-Ok-clause-ample : goal.returns-in-Ok-clause-ample
returns-in-Ok-clause-ample g c = λ is. subst (EndsText (Ok c.args.line) (between g.K.Sink.faults g.K.Sink.written g.K.Sink.pieces c.args.output.now c.write_text.new.output)) is c.write_text.ensures

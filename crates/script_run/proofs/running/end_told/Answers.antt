use Rattle.script_run.proofs.Names.{◌≡◌, Err, subst, rules, HasEnded, told_text}
use Rattle.memory_requests.specs.Evidence.{a_refusal}
use Rattle.lane_runner.specs.declared.wording.Unwritten.TheVariants.{NoMemory}
use Rattle.script_run.proofs.WrittenSteps.{told_short}
use Rattle.script_run.proofs.running.end_told.Goals as goal

pub returns-in-Err-NoMemory-clause-ends : goal.returns-in-Err-NoMemory-clause-ends
returns-in-Err-NoMemory-clause-ends g c = λ first passed ended.
    let lacks : c.args.ran.now.written ≡ Err (NoMemory a_refusal) = (search rules) in
    told_short c.args.ran.now.transcript.lines c.args.reports.now first (g.K.Sink.faults c.args.output.now) (g.K.Sink.faults c.args.output.now)
    (g.K.Sink.written c.args.output.now) (g.K.Sink.written c.args.output.now) (g.K.Sink.pieces c.args.output.now)
    (subst (HasEnded first.faults_before (g.K.Sink.faults c.args.output.now) first.before (g.K.Sink.written c.args.output.now) told_text
    c.args.ran.now.transcript.lines) lacks ended)

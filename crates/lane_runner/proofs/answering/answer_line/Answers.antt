use Rattle.lane_runner.proofs.AnswerSteps.{answered_post}
use Rattle.lane_runner.proofs.answering.answer_line.Goals as goal

pub returns-in-Post-clause-answered : goal.returns-in-Post-clause-answered
returns-in-Post-clause-answered g c = rw c.in-Post.is (answered_post c.args.basis.now c.args.lane c.in-Post.command
    c.post-turn.result.turn c.post-turn.result.answer c.args.pass.now c.post-turn.new.pass (rw c.in-Post.is at c.requires.left)
    c.post-turn.ensures.turn c.post-turn.ensures.facts)

use Rattle.lane_runner.proofs.Names.{◌≡◌, ◌+◌, take, SameProducer, known_free, sent, PassFacts, IsOfficeHistory, HasAnswered}
use Rattle.lane_runner.proofs.answering.answer_lane.Given as goal

abbrev pub invariant-loop-line : goal.invariant-loop-line
invariant-loop-line g l = record {
  ring : SameProducer l.fn.outlet.ring l.outlet.ring;
  room : known_free l.outlet.ring + l.line-index ≡ known_free l.fn.outlet.ring;
  answered : HasAnswered l.basis l.lane.number (take l.line-index l.asked) l.fn.pass l.pass (sent l.outlet.ring);
  facts : PassFacts IsOfficeHistory l.pass;
}

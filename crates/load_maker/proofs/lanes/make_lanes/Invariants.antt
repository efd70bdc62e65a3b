use Rattle.load_maker.proofs.Names.{◌≡◌, generated_rows, lanes_up_to}
use Rattle.load_maker.proofs.lanes.make_lanes.Given as goal

abbrev pub invariant-loop-before : goal.invariant-loop-before
invariant-loop-before l = l.dealt.items ≡ lanes_up_to l.before (generated_rows l.seed l.lanes l.count)

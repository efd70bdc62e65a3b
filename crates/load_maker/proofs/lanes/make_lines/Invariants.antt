use Rattle.load_maker.proofs.Names.{◌≡◌, state_after, generated_rows, lines_of}
use Rattle.load_maker.proofs.lanes.make_lines.Given as goal

abbrev pub invariant-loop-before : goal.invariant-loop-before
invariant-loop-before l =
    (l.generator.state ≡ state_after l.seed l.before)
    × (l.lines.items ≡ lines_of l.lane (generated_rows l.seed l.lanes l.before))

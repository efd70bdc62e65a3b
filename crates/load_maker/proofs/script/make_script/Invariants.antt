use Rattle.load_maker.proofs.Names.{◌≡◌, state_after}
use Rattle.load_maker.specs.GeneratedScript.{generated_text}
use Rattle.load_maker.proofs.script.make_script.Given as goal

abbrev pub invariant-loop-before : goal.invariant-loop-before
invariant-loop-before l =
    (l.generator.state ≡ state_after l.seed l.before) × (l.lines ≡ generated_text l.seed l.lanes l.before)

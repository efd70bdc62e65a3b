use Rattle.xtbml_subset.proofs.Names.{ap, ◌∙◌, elements_at, state_of, walk_at}
use Rattle.xtbml_subset.proofs.Stack.{texts}
use Rattle.xtbml_subset.proofs.PassedOver.{run_outside, run_inside, elements_text, elements_white}
use Rattle.xtbml_subset.proofs.state.Nesting.after_run.Goals as goal

pub returns-then-self-eq0-clause-walk : goal.returns-then-self-eq0-clause-walk
returns-then-self-eq0-clause-walk c =
    let self = c.args.self.now in
    ap (walk_at (state_of self)) c.skip.ensures.after ∙ run_outside self.phase self.depth (texts self.names) c.args.bytes.now c.if-self-eq0.true

pub returns-else-self-eq0-clause-walk : goal.returns-else-self-eq0-clause-walk
returns-else-self-eq0-clause-walk c =
    let self = c.args.self.now in
    ap (walk_at (state_of self)) c.after_text.ensures.after ∙ run_inside self.phase self.depth (texts self.names) c.args.bytes.now c.if-self-eq0.false

pub returns-then-self-eq0-clause-elements : goal.returns-then-self-eq0-clause-elements
returns-then-self-eq0-clause-elements c = λ depth wanted. ap (elements_at depth wanted) c.skip.ensures.after ∙ elements_white c.args.bytes.now depth wanted

pub returns-else-self-eq0-clause-elements : goal.returns-else-self-eq0-clause-elements
returns-else-self-eq0-clause-elements c = λ depth wanted. ap (elements_at depth wanted) c.after_text.ensures.after ∙ elements_text c.args.bytes.now depth wanted

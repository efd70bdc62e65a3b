use Rattle.lane_runner.proofs.Names.{ℕ, [], ◌∷◌, ◌++◌, sym, subst, rules, IsShowing}
use Rattle.lane_runner.proofs.GatherSteps.{put_same}
use Rattle.lane_runner.proofs.ShowSteps.{showing_kept, showing_same}
use Rattle.lane_runner.proofs.page.Page.gather.Goals as goal

pub returns-clause-put : goal.returns-clause-put
returns-clause-put g c = λ faults first text lines told words_are put.
    c.pass_on.ensures.put faults first text lines told words_are (c.flush.ensures.put faults first text lines
    (put_same text faults _ first _ lines _ _ _ _ (search rules) (search rules) put))

pub returns-then-keep-clause-shown : goal.returns-then-keep-clause-shown
returns-then-keep-clause-shown g c = λ text first lines moments told words_are enough is.
    subst (λ (latest : ℕ). IsShowing text first (g.K.Sink.pieces c.args.output.now) (lines ++ told ∷ []) moments latest c.keep.new.self.bytes.items
    c.keep.new.self.stopped) (sym c.keep.ensures.latest)
    (showing_kept text first (g.K.Sink.pieces c.args.output.now) lines moments c.args.self.now.latest c.args.words.now c.args.self.now.bytes.items
    c.keep.new.self.bytes.items c.args.self.now.stopped c.keep.new.self.stopped told (search rules) words_are c.keep.ensures.stopped enough is)

pub returns-clause-shown : goal.returns-clause-shown
returns-clause-shown g c = λ text first lines moments told words_are enough is.
    c.pass_on.ensures.shown text first lines moments told words_are enough (c.flush.ensures.shown text first lines moments
    (subst (λ (latest : ℕ). IsShowing text first (g.K.Sink.pieces c.args.output.now) lines moments latest c.keep.new.self.bytes.items
    c.keep.new.self.stopped) (sym c.keep.ensures.latest)
    (showing_same text first (g.K.Sink.pieces c.args.output.now) lines moments c.args.self.now.latest c.args.self.now.bytes.items
    c.keep.new.self.bytes.items c.args.self.now.stopped c.keep.new.self.stopped (search rules) c.keep.ensures.stopped is)))

use Rattle.std.proofs.Common.{rules, ap, ◌∙◌}
use Rattle.turn_lock.proofs.Stepping.{hands_back}
use Rattle.turn_lock.proofs.steps.give.Goals as goal

pub store-requires : goal.store-requires
store-requires g c = let T = g.T.Stands in let asked = c.requires.entry in (
  search rules,
  search rules,
  hands_back T.opening T.legal T.stands _ _ _ c.args.place.now.me _ c.args.kept g.E.Appended.appended c.args.word c.exchange-emptied.ensures.3 c.requires.inside c.requires.word c.requires.carried
      (ap (λ e. e.caller) asked.0 ∙ (g.met.C.Turn.by_caller c.args.asked.now.value c.args.caller c.args.answer.now ∙ asked.1)) c.requires.stood c.requires.turns T.is_legal,
)

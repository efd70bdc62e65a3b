use Rattle.turn_lock.proofs.Names.{rules, ◌∷◌, Some, sym, ap, ◌∙◌, rest}
use Rattle.turn_lock.proofs.Stepping.{tries}
use Rattle.turn_lock.proofs.steps.take.Goals as goal

pub compare_exchange-requires : goal.compare_exchange-requires
compare_exchange-requires g c = (search rules, search rules, tries g.T.Stands.opening g.T.Stands.legal g.T.Stands.stands _ _ _ _ g.T.Stands.is_legal c.args.word (search rules) (search rules) (search rules))

pub exchange-requires : goal.exchange-requires
exchange-requires g c = let taken = c.compare_exchange.ensures.2.taken c.if-compare_exchange-word.true in let carried = ap (λ m. m.1) taken.next_is in
    (search rules, (Some taken.kept, carried ∙ ap (λ cs. (0, Some taken.kept) ∷ rest cs) (sym carried)))

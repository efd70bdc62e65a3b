use Rattle.turn_lock.proofs.Names.{rules, ◌≡◌, ◌∷◌, [], sym, ap, ◌∙◌, subst, Some, opening, all_turns, all_shares, first_view, LockRule, IsPass}
use Rattle.turn_lock.proofs.Dividing.{starts}
use Rattle.turn_lock.proofs.Passing.{first_pass, facts_of}
use Rattle.turn_lock.proofs.turnstile.Turnstile.new.Goals.{In-Ok}
use Rattle.turn_lock.proofs.turnstile.Turnstile.new.Goals as goal

pub table_of-requires : goal.table_of-requires
table_of-requires g c = let T = g.T.Stands in let o = T.opening c.of-first.result.value in let items : c.push_first.new.items.items ≡ Some c.first.result ∷ [] = search rules in
    subst (λ xs. LockRule T.opening T.legal T.stands o (opening (0 ∷ 1 ∷ []) xs (first_view o))) (sym items)
    (starts T.opening T.legal T.stands o T.is_legal c.first.result (ap T.opening (c.first.ensures.0 ∙ sym c.of-first.ensures)) (subst (λ x. T.stands x []) (sym c.first.ensures.0) c.requires) c.first.ensures.1)

first : (g : _) (c : In-Ok g) → IsPass g.T.Stands.legal c.in-Ok.place.me 0 all_turns all_shares
first g c = let T = g.T.Stands in let o = T.opening c.of-first.result.value in
    first_pass T.legal o c.in-Ok.place.me c.in-Ok.ensures.ok.4 (subst (λ z. T.legal z []) (ap T.opening (sym c.of-first.ensures)) (T.is_legal c.args.value [] c.requires))

pub invariant_of-pass : goal.invariant_of-pass
invariant_of-pass g c = first g c

pub returns-in-Ok-clause-facts : goal.returns-in-Ok-clause-facts
returns-in-Ok-clause-facts g c = facts_of g.T.Stands.legal c.in-Ok.place (first g (goal.at.returns-in-Ok-clause-facts g c).In-Ok).facts

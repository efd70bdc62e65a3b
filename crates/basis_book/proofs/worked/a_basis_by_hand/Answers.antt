use Rattle.basis_book.proofs.Names.{refl, [], ◌∷◌, codes, lit≤, arith, ints, csv_on_literals, Reached}
use Rattle.basis_book.proofs.WorkedRows.{first_text, first_in, second_text, second_in, third_text, third_in, q_name, g_name, no_points, four_percent, twenty_percent}
use Rattle.basis_book.proofs.worked.a_basis_by_hand.Goals as goal

pub returns-clause-three : goal.returns-clause-three
unfolding csv_on_literals Reached
returns-clause-three c = (
  (codes "2000-01-01" ∷ codes "q.xml" ∷ codes "0" ∷ [])
      ∷ (codes "2010-01-01" ∷ codes "G-1_.x" ∷ codes "400" ∷ [])
      ∷ (codes "2018-12-31" ∷ codes "q.xml" ∷ codes "2000" ∷ []) ∷ [],
  (_, _, (_, refl, refl, (_, refl, refl, (_, refl, refl, (refl, refl)))), refl),
  lit≤ tt,
  record {
    each = ((first_text, first_in, q_name, refl, no_points), ((second_text, second_in, g_name, refl, four_percent), ((third_text, third_in, q_name, refl, twenty_percent), tt)));
    rise = (omega (arith, ints), (omega (arith, ints), tt));
  },
)

pub returns-clause-none : goal.returns-clause-none
unfolding csv_on_literals Reached
returns-clause-none c = ([], (_, _, (refl, refl), refl), lit≤ tt, record { each = tt; rise = tt })

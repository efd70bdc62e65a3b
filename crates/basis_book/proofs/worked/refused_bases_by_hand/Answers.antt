use Rattle.basis_book.proofs.Names.{◌<◌, ◌≤◌, refl, [], ◌∷◌, codes, pos, lit≤, lit<, arith, ints, csv_on_literals, Reached}
use Rattle.std.specs.Prelude.{replicate}
use Rattle.basis_book.proofs.WorkedRows.{first_text, first_in, second_text, second_in, q_name, no_points, one_point, two_points, too_many_points, no_name}
use Rattle.basis_book.proofs.worked.refused_bases_by_hand.Goals as goal

pub returns-clause-bad : goal.returns-clause-bad
unfolding csv_on_literals Reached
returns-clause-bad c = (
  (
    (codes "2000-01-01" ∷ codes "q.xml" ∷ codes "0" ∷ []) ∷ (codes "2010-01-01" ∷ codes "q.xml" ∷ []) ∷ [],
    (_, _, (_, refl, refl, (_, refl, refl, (refl, refl))), refl),
    (
      lit≤ tt,
      record {
        before = (record { from_day = pos 10957; table = codes "q.xml"; bp = 0 }) ∷ [];
        fields = codes "2010-01-01" ∷ codes "q.xml" ∷ [];
        good = (codes "2000-01-01" ∷ codes "q.xml" ∷ codes "0" ∷ []) ∷ [];
        rest = [];
        split = refl;
        number = refl;
        right = record { each = ((first_text, first_in, q_name, refl, no_points), tt); rise = tt };
        wrong = λ row h. h;
      },
    ),
  ),
  (
    (codes "2000-01-01" ∷ codes "q.xml" ∷ codes "0" ∷ [] ∷ []) ∷ [],
    (_, _, (_, refl, refl, (refl, refl)), refl),
    (
      lit≤ tt,
      record {
        before = [];
        fields = codes "2000-01-01" ∷ codes "q.xml" ∷ codes "0" ∷ [] ∷ [];
        good = [];
        rest = [];
        split = refl;
        number = refl;
        right = record { each = tt; rise = tt };
        wrong = λ row h. h;
      },
    ),
  ),
  (
    (codes "2000-01-01" ∷ codes "q.xml" ∷ codes "2001" ∷ []) ∷ [],
    (_, _, (_, refl, refl, (refl, refl)), refl),
    (
      lit≤ tt,
      record {
        before = [];
        fields = codes "2000-01-01" ∷ codes "q.xml" ∷ codes "2001" ∷ [];
        good = [];
        rest = [];
        split = refl;
        number = refl;
        right = record { each = tt; rise = tt };
        wrong = λ row h. too_many_points row.bp h.4;
      },
    ),
  ),
  (
    (codes "2000-01-01" ∷ codes ".xml" ∷ codes "0" ∷ []) ∷ [],
    (_, _, (_, refl, refl, (refl, refl)), refl),
    (
      lit≤ tt,
      record {
        before = [];
        fields = codes "2000-01-01" ∷ codes ".xml" ∷ codes "0" ∷ [];
        good = [];
        rest = [];
        split = refl;
        number = refl;
        right = record { each = tt; rise = tt };
        wrong = λ row h. no_name h.2;
      },
    ),
  ),
)

pub returns-clause-falling : goal.returns-clause-falling
unfolding csv_on_literals Reached
returns-clause-falling c =
    let first = codes "2000-01-01" ∷ codes "q.xml" ∷ codes "0" ∷ [] in
    let second = codes "2010-01-01" ∷ codes "q.xml" ∷ codes "1" ∷ [] in
    let third = codes "2010-01-01" ∷ codes "q.xml" ∷ codes "2" ∷ [] in (
      first ∷ second ∷ third ∷ [],
      (_, _, (_, refl, refl, (_, refl, refl, (_, refl, refl, (refl, refl)))), refl),
      (
        lit≤ tt,
        record {
          before = (record { from_day = pos 10957; table = codes "q.xml"; bp = 0 }) ∷ (record { from_day = pos 14610; table = codes "q.xml"; bp = 1 }) ∷ [];
          fields = third;
          good = first ∷ second ∷ [];
          rest = [];
          split = refl;
          number = refl;
          right = record {
            each = ((first_text, first_in, q_name, refl, no_points), ((second_text, second_in, q_name, refl, one_point), tt));
            rise = (omega (arith, ints), tt);
          };
          wrong = (
            record { from_day = pos 14610; table = codes "q.xml"; bp = 2 },
            (second_text, second_in, q_name, refl, two_points),
            λ rise. let last = rise.1.0 in omega (arith, ints),
          );
        },
      ),
    )

pub returns-clause-many : goal.returns-clause-many
returns-clause-many c = (
  lit< tt,
  (λ h. let no : 1000 < 1000 = h in omega arith),
  (λ h. let no : 1001 ≤ 1000 = h.0 in omega arith),
  (
    lit≤ tt,
    record {
      before = [];
      fields = [];
      good = [];
      rest = replicate 999 [];
      split = refl;
      number = refl;
      right = record { each = tt; rise = tt };
      wrong = λ row h. h;
    },
  ),
)

use Rattle.std.proofs.Common.{refl, Some, Ok, [], ◌∷◌}
use Rattle.xtbml_subset.proofs.WorkedTables.{a_tenth, a_half, one}
use Rattle.xtbml_subset.proofs.WorkedSelectTables.{select_on_literals, any_judged}
use Rattle.xtbml_subset.proofs.worked.a_select_table_by_hand.Goals as goal

pub returns : goal.returns
unfolding select_on_literals
returns c = any_judged _ _ refl (
  Ok (record { first_age = 3; rows = (500000000 ∷ 1000000000 ∷ []) ∷ []; ultimate = record { first_age = 5; rates = 100000000 ∷ [] } }),
  (
    Ok tt,
    refl,
    (
      Ok tt,
      refl,
      (
        Ok ((500000000 ∷ 1000000000 ∷ []) ∷ []),
        (
          Ok (Some 4, 500000000 ∷ 1000000000 ∷ []),
          (
            Ok (500000000 ∷ 1000000000 ∷ []),
            (
              Ok (record { duration = Some 2; age = 4 }, 500000000),
              (Some 500000000, a_half, refl),
              (
                Ok (1000000000 ∷ []),
                (Ok (record { duration = Some 3; age = 5 }, 1000000000), (Some 1000000000, one, refl), (Ok [], refl, refl)),
                refl,
              ),
            ),
            refl,
          ),
          (Ok [], refl, refl),
        ),
        (
          Ok (record { first_age = 5; rates = 100000000 ∷ [] }),
          (Ok (100000000 ∷ []), (Ok (Some 6, 100000000), (Some 100000000, a_tenth, refl), (Ok [], refl, refl)), refl),
          refl,
        ),
      ),
    ),
  ),
  refl,
)

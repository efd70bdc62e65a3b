use Rattle.xtbml_subset.proofs.Names.{refl, Some, Ok, Err, [], ◌∷◌, BadDuration, NoUltimate, UltimateGap, Bad}
use Rattle.xtbml_subset.proofs.WorkedTables.{a_half, one}
use Rattle.xtbml_subset.proofs.WorkedSelectTables.{select_on_literals, any_judged}
use Rattle.xtbml_subset.proofs.worked.refused_select_tables_by_hand.Goals as goal

pub returns : goal.returns
unfolding select_on_literals
returns c = (
  any_judged _ _ refl (
    Err (Bad 22 BadDuration),
    (Ok tt, refl, (Ok tt, refl, (Err (Bad 22 BadDuration), (Err (Bad 22 BadDuration), refl, refl), refl))),
    refl,
  ),
  any_judged _ _ refl (
    Err (Bad 40 BadDuration),
    (
      Ok tt,
      refl,
      (
        Ok tt,
        refl,
        (
          Err (Bad 40 BadDuration),
          (Err (Bad 40 BadDuration), (Err (Bad 40 BadDuration), (Err (Bad 40 BadDuration), refl, refl), refl), refl),
          refl,
        ),
      ),
    ),
    refl,
  ),
  any_judged _ _ refl (
    Err (Bad 7 NoUltimate),
    (
      Ok tt,
      refl,
      (
        Ok tt,
        refl,
        (
          Ok ((500000000 ∷ []) ∷ []),
          (
            Ok (Some 4, 500000000 ∷ []),
            (
              Ok (500000000 ∷ []),
              (Ok (record { duration = Some 1; age = 4 }, 500000000), (Some 500000000, a_half, refl), (Ok [], refl, refl)),
              refl,
            ),
            (Ok [], refl, refl),
          ),
          (Err (Bad 7 NoUltimate), refl, refl),
        ),
      ),
    ),
    refl,
  ),
  any_judged _ _ refl (
    Err (Bad 28 UltimateGap),
    (
      Ok tt,
      refl,
      (
        Ok tt,
        refl,
        (
          Ok ((500000000 ∷ []) ∷ []),
          (
            Ok (Some 4, 500000000 ∷ []),
            (
              Ok (500000000 ∷ []),
              (Ok (record { duration = Some 1; age = 4 }, 500000000), (Some 500000000, a_half, refl), (Ok [], refl, refl)),
              refl,
            ),
            (Ok [], refl, refl),
          ),
          (
            Ok (record { first_age = 5; rates = 1000000000 ∷ [] }),
            (Ok (1000000000 ∷ []), (Ok (Some 6, 1000000000), (Some 1000000000, one, refl), (Ok [], refl, refl)), refl),
            refl,
          ),
        ),
      ),
    ),
    refl,
  ),
)

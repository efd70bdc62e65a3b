use Rattle.std.proofs.Common.{refl, Some, Ok, [], ◌∷◌}
use Rattle.xtbml_subset.proofs.WorkedTables.{tables_on_literals, judged, a_tenth, a_half, one}
use Rattle.xtbml_subset.proofs.worked.a_table_by_hand.Goals as goal

pub returns : goal.returns
unfolding tables_on_literals
returns c = judged _ _ refl (
  Ok tt,
  refl,
  (
    Ok (100000000 ∷ 500000000 ∷ 1000000000 ∷ []),
    (
      Ok (Some 1, 100000000),
      (Some 100000000, a_tenth, refl),
      (
        Ok (500000000 ∷ 1000000000 ∷ []),
        (
          Ok (Some 2, 500000000),
          (Some 500000000, a_half, refl),
          (
            Ok (1000000000 ∷ []),
            (Ok (Some 3, 1000000000), (Some 1000000000, one, refl), (Ok [], refl, refl)),
            refl,
          ),
        ),
        refl,
      ),
    ),
    refl,
  ),
)

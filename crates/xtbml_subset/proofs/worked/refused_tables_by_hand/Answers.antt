use Rattle.xtbml_subset.proofs.Names.{refl, None, Some, Ok, Err, inl, Scaled, BadAge, AgeGap, BadRate, Bad}
use Rattle.xtbml_subset.proofs.Final.{fault_due}
use Rattle.xtbml_subset.proofs.WorkedTables.{tables_on_literals, judged, a_tenth}
use Rattle.xtbml_subset.proofs.worked.refused_tables_by_hand.Goals as goal

pub returns-clause-documents : goal.returns-clause-documents
unfolding tables_on_literals
returns-clause-documents c = (fault_due _ _ refl, fault_due _ _ refl, fault_due _ _ refl, fault_due _ _ refl, fault_due _ _ refl)

pub returns-clause-tables : goal.returns-clause-tables
unfolding tables_on_literals
returns-clause-tables c = (inl (judged _ _ refl refl), inl (judged _ _ refl refl), inl (judged _ _ refl refl))

pub returns-clause-others : goal.returns-clause-others
unfolding tables_on_literals
returns-clause-others c = (inl (judged _ _ refl refl), inl (judged _ _ refl (Err (Bad 24 Scaled), ((λ h. h), refl), refl)))

pub returns-clause-rates : goal.returns-clause-rates
unfolding tables_on_literals
returns-clause-rates c = (
  inl (judged _ _ refl (Ok tt, refl, (Err (Bad 28 BadAge), (Err (Bad 28 BadAge), refl, refl), refl))),
  inl (judged _ _ refl (Ok tt, refl, (Err (Bad 28 BadAge), (Err (Bad 28 BadAge), refl, refl), refl))),
  inl (judged _ _ refl (
    Ok tt,
    refl,
    (
      Err (Bad 44 AgeGap),
      (Ok (Some 1, 100000000), (Some 100000000, a_tenth, refl), (Err (Bad 44 AgeGap), (Err (Bad 44 AgeGap), refl, refl), refl)),
      refl,
    ),
  )),
  inl (judged _ _ refl (Ok tt, refl, (Err (Bad 28 BadRate), (Err (Bad 28 BadRate), (None, refl, refl), refl), refl))),
)

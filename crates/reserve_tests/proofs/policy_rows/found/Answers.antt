use Rattle.reserve_tests.proofs.policy_rows.found.Goals as goal

pub row_after_others-requires : goal.row_after_others-requires
row_after_others-requires c = c.in-Ok.ensures.right _

use Rattle.reserve_tests.proofs.policy_cache_tests.asked_in_turn.Goals as goal

pub row_of-requires : goal.row_of-requires
row_of-requires c = c.in-Ok.ensures.right _

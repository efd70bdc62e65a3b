use Rattle.office_tests.proofs.shared_pin_tests.+pins_at_once.Given as goal

abbrev pub decreases-pins_at_once : goal.decreases-pins_at_once
decreases-pins_at_once g l = l.most

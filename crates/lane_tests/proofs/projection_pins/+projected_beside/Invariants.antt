use Rattle.lane_tests.proofs.projection_pins.+projected_beside.Given as goal

abbrev pub decreases-projected_beside : goal.decreases-projected_beside
decreases-projected_beside g l = l.pins

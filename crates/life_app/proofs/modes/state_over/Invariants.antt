-- The count of steps belongs to the blank's ledger.
use Rattle.life_app.proofs.modes.state_over.Given as goal

abbrev pub ghosts-state_by : goal.ghosts-state_by
ghosts-state_by g a = record { name = a.blank.name; parts = a.blank.parts }

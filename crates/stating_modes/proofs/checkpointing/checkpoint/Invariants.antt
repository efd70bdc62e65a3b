-- The count of steps belongs to the blank's ledger.
use Rattle.stating_modes.proofs.checkpointing.checkpoint.Given as goal

abbrev pub ghosts-checkpoint_by : goal.ghosts-checkpoint_by
ghosts-checkpoint_by g a = record { name = a.blank.name; parts = a.blank.parts }

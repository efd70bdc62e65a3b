-- The count of looks belongs to the blank's ledger.
use Rattle.measure.proofs.versions.measure_versions.Given as goal

abbrev pub ghosts-run : goal.ghosts-run
ghosts-run g a = record { name = a.blank.name; parts = a.blank.parts }

use Rattle.program_endings.specs.Writing.{shelf_between}
use Rattle.valuing_modes.proofs.Nobody.{never_ahead, projects_nothing}
use Rattle.valuing_modes.proofs.worked_projections.an_empty_file_is_projected.Goals as goal

pub returns : goal.returns
returns g c = record {
  projected = λ shelf asked. projects_nothing g.D.Disk (shelf_between g.H.Shelf.faults g.H.Shelf.agrees shelf asked);
  unasked = λ shelf asked. never_ahead g.D.Disk (shelf_between g.H.Shelf.faults g.H.Shelf.agrees shelf asked);
}

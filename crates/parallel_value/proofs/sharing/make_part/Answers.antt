use Rattle.parallel_value.proofs.PartSteps.{all_part}
use Rattle.parallel_value.proofs.sharing.make_part.Goals as goal

pub map_alone-requires : goal.map_alone-requires
map_alone-requires g c = record {
  sized = c.requires.sized;
  taken = rw c.part_at.ensures (all_part (g.P.Piece.takes c.args.piece.now) c.args.items_in_part c.args.first c.args.items.now c.requires.taken);
}

use Rattle.xtbml_subset.specs.inside.Views.{path_of, passing_of}
use Rattle.xtbml_subset.proofs.Surveyed.{path_kept}
use Rattle.xtbml_subset.proofs.path.ElementPath.pass.Goals as goal

pub returns-then-passing-gt4 : goal.returns-then-passing-gt4
returns-then-passing-gt4 c = path_kept (passing_of c.args.passing.now) (path_of c.args.self.now) c.if-passing-gt4.true

use Rattle.xtbml_subset.specs.inside.Views.{found_of}
use Rattle.xtbml_subset.proofs.PathReading.{within_hit, within_none}
use Rattle.xtbml_subset.proofs.table.within.Goals as goal

pub returns-in-Hit-clause-within : goal.returns-in-Hit-clause-within
returns-in-Hit-clause-within c = λ name is. within_hit c.args.total name (found_of c.args.parent.now) c.args.search.now c.in-Hit.child c.in-Hit.is is

pub returns-in-Seeking-clause-within : goal.returns-in-Seeking-clause-within
returns-in-Seeking-clause-within c = λ name is.
    within_none c.args.total name (found_of c.args.parent.now) c.args.search.now c.place.result c.in-Seeking.is is c.place.ensures

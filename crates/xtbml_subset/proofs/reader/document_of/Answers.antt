use Rattle.xtbml_subset.proofs.Final.{path_of_root, root_first, root_found}
use Rattle.xtbml_subset.proofs.reader.document_of.Goals as goal

pub unreachable-requires : goal.unreachable-requires
unreachable-requires c = root_found c.args.bytes.now c.in-Ok.path.root c.in-Ok.ensures.document c.in-Ok.ensures.path.root c.in_default.not-Hit

pub returns-clause-root : goal.returns-clause-root
returns-clause-root c = root_first c.args.bytes.now c.in-Ok.path.root c.in-Hit.root c.in-Hit.is c.in-Ok.ensures.path.root

pub returns-clause-path : goal.returns-clause-path
returns-clause-path c = path_of_root c.args.bytes.now c.in-Ok.path c.in-Hit.root c.in-Hit.is c.in-Ok.ensures.path

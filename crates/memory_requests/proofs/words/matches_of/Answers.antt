use Rattle.clap.specs.Words.{app_of, built, is_simple}
use Rattle.clap.specs.Faults.{is_free_app}
use Rattle.clap.proofs.WalkLemmas.{both}
use Rattle.memory_requests.proofs.words.matches_of.Goals as goal

pub returns-in-Ok : goal.returns-in-Ok
returns-in-Ok c =
    let app = app_of c.args.command in
    let simple = both (is_simple app) (is_free_app (built app)) c.requires in
    (c.in-Ok.ensures.kinds c.requires, (c.in-Ok.ensures.matches simple.0).0)

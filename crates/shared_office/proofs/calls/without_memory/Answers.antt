use Rattle.shared_office.proofs.Starting.{unopened}
use Rattle.shared_office.proofs.calls.without_memory.Goals as goal

pub returns : goal.returns
returns g c old opened =
    unopened g.D.Disk g.W.Watching old c.args.state opened c.close-disk.result.0 (c.close-disk.ensures.left _ opened.stands)

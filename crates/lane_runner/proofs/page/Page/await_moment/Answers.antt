use Rattle.lane_runner.proofs.Names.{arith, received}
use Rattle.lane_runner.proofs.ShowSteps.{showing_moment}
use Rattle.lane_runner.proofs.page.Page.await_moment.Goals as goal

pub returns-clause-shown : goal.returns-clause-shown
returns-clause-shown g c = λ text first now lines is.
    showing_moment text first now lines (received c.args.moments.now.ring) (received c.next-moment.new.self.ring) c.args.self.now.latest
    c.next-moment.result c.later.result c.args.self.now.bytes.items c.args.self.now.stopped c.next-moment.ensures.received
    (omega (arith, c.later.ensures)) (omega (arith, c.later.ensures)) is

use Rattle.office_state.proofs.Names.{List, sym, subst, Entry, accepted_of, sent, AreSafeSince, IsLeftBy, StandsFor, begun_of, opening_of}
use Rattle.std.specs.Prelude.{IfSome}
use Rattle.office_state.proofs.LeavingSteps.{left_by}
use Rattle.office_state.proofs.state.OfficeState.close.Goals as goal

pub returns-clause-left : goal.returns-clause-left
returns-clause-left g c = λ (history : List Entry) (stands : StandsFor c.args.self history).
    subst (λ disk. IsLeftBy g.D.Disk (begun_of c.args.self) disk (opening_of c.args.self) history) (sym c.release.ensures)
    (left_by c.args.self history stands)

pub returns-clause-safe : goal.returns-clause-safe
returns-clause-safe g c = λ (history : List Entry) (stands : StandsFor c.args.self history).
    subst (λ disk. g.D.Disk.honest disk → IfSome c.args.self.outlet.ring
    (λ ring. AreSafeSince g.D.Disk disk (opening_of c.args.self).commands (accepted_of history) (sent ring))) (sym c.release.ensures) stands.safe

pub returns-clause-reports : goal.returns-clause-reports
returns-clause-reports g c = λ (history : List Entry) (stands : StandsFor c.args.self history).
    c.finish.ensures _ (accepted_of history) stands.told

use Rattle.std.proofs.Common.{◌≡◌, ap, Err}
use Rattle.std.specs.Option.{option_copied}
use Rattle.basis_shelf.specs.declared.fault.NoBasis.TheVariants.{ReadFault}
use Rattle.program_endings.proofs.BasisSteps.{no_basis}
use Rattle.lone_office.proofs.BeginningSteps.{not_begun}
use Rattle.lone_office.proofs.beginning.begin.Goals as goal

pub returns-in-Err-clause-ended : goal.returns-in-Err-clause-ended
returns-in-Err-clause-ended g c =
    not_begun g.D.Disk c.args.disk _ c.in-Some.name.now _ _ _ _ (ap option_copied c.in-Some.is)
    (no_basis c.in-Some.name.now _ _ c.refuse_basis.result c.in-Err.cause c.in-Err.ensures.bad
    (λ (is : c.in-Err.cause ≡ ReadFault). c.in-Err.ensures.failed (ap Err is)) c.refuse_basis.ensures.says)

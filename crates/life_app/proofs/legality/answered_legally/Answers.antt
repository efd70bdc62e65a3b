use Rattle.std.proofs.Common.{inl, inr}
use Rattle.life_app.specs.Names.{Opens}
use Rattle.life_app.specs.TableReserves.{table_reserves}
use Rattle.life_app.proofs.HeadlineLaws.{headline}
use Rattle.life_app.proofs.LegalityLaws.{legally_answered}
use Rattle.life_app.proofs.legality.answered_legally.Goals as goal

pub returns : goal.returns
returns g c old new second kept input read output written shelf asked words auditors status name bytes lanes basis obeys run whole reads given =
    elim (headline g.D.Disk old new _ name _ _ (λ disk image honest left. g.met.D.Disk.only_now disk image honest left) g.E.Disk second kept
    lanes basis auditors bytes words _ _ status obeys run whole reads given) [
      | inl promised ↦ inl (legally_answered g.D.Disk Opens table_reserves old new lanes basis auditors _ status promised)
      | inr unrun ↦ inr unrun
    ]

use Rattle.life_app.proofs.Names.{inl, inr, lit≤, refl, opens_to_one}
use Rattle.basis_shelf.proofs.OneBasis.{one_basis}
use Rattle.life_app.proofs.HeadlineLaws.{headline, once}
use Rattle.life_app.proofs.TextLaws.{tells_apart}
use Rattle.life_app.proofs.promise.headline.Goals as goal

pub returns : goal.returns
returns g c = record {
  promised = λ old new second kept input read output written shelf asked words auditors status name bytes lanes basis obeys run whole reads given.
      headline g.D.Disk old new _ name _ _ (λ disk image honest left. g.met.D.Disk.only_now disk image honest left) g.E.Disk second kept
      lanes basis auditors bytes words _ _ status obeys run whole reads given;
  one = opens_to_one;
  empty = inr (refl, inl (lit≤ tt));
  one_basis = one_basis;
  one_reserve = once;
  told = tells_apart;
}

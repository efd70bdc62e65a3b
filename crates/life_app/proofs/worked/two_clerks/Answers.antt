use Rattle.life_app.proofs.Names.{digits, refl, lit<}
use Rattle.life_app.proofs.worked.two_clerks.Goals as goal

pub returns : goal.returns
unfolding digits
returns c = (
  record {
    rising = (lit< tt, (lit< tt, tt));
    clerks = ((1, lit< tt, refl), ((0, lit< tt, refl), ((1, lit< tt, refl), tt)));
    turns = (refl, (refl, (refl, tt)));
    each = ((refl, refl), ((refl, refl), tt));
  },
  (refl, (refl, (refl, tt))),
)

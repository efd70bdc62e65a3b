use Rattle.std.proofs.Common.{arith, lit<}
use Rattle.life_app.proofs.HeadlineLaws.{once}
use Rattle.life_app.proofs.TextLaws.{tells_apart}
use Rattle.life_app.proofs.worked.texts_are_told_apart.Goals as goal

pub returns : goal.returns
returns c = (lit< tt, tt, (λ same. omega (arith, same)), (lit< tt, lit< tt, (lit< tt, lit< tt)), (lit< tt, lit< tt), tells_apart, once)

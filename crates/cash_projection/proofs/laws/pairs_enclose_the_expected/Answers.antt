use Rattle.cash_projection.proofs.Totals.{year_encloses}
use Rattle.cash_projection.proofs.laws.pairs_enclose_the_expected.Goals as goal

pub returns : goal.returns
returns c = year_encloses

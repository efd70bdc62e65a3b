-- It is computed as it is defined.
use Rattle.std.proofs.Common.{refl}
use Rattle.versioned_book.specs.inside.Hashing.{spread}
use Rattle.versioned_book.proofs.hashing.spread.Goals as goal

pub returns : goal.returns
unfolding spread
returns c = refl

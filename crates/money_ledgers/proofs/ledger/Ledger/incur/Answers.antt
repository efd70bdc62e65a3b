use Rattle.std.proofs.Common.{arith}
use Rattle.std.proofs.lemmas.Int.{ints}
use Rattle.money_ledgers.proofs.BookingLemmas.{same_booking}
use Rattle.money_ledgers.proofs.ledger.Ledger.incur.Goals as goal

pub returns : goal.returns
returns c = same_booking (omega (arith, ints)) (omega (arith, ints)) (omega (arith, ints)) (omega (arith, ints))

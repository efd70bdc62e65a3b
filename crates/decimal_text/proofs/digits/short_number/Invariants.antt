use Rattle.decimal_text.proofs.Names.{◌≡◌, take, number}
use Rattle.decimal_text.proofs.digits.short_number.Given as goal

abbrev pub invariant-loop-digit : goal.invariant-loop-digit
invariant-loop-digit l = l.value ≡ number (take l.digit-index l.digits)

use Rattle.money_core.proofs.Names.{◌≡◌, take, AllDigits, digits_value}
use Rattle.money_core.proofs.number.value_of_digits.Given as goal

abbrev pub invariant-loop-byte : goal.invariant-loop-byte
invariant-loop-byte l = record {
  digits : AllDigits 10 (take l.byte-index l.text);
  value : l.value ≡ digits_value 10 (take l.byte-index l.text);
}

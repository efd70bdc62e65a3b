-- Digits with a point or none, and no power of ten, spell the decimal of these digits.
use Rattle.decimal_text.proofs.Names.{ℕ, ◌+◌, ◌<◌, List, [], length, refl, sym, append-nil, AreDigits, IsPlain, Spells}

pub spelt : (text whole fraction : List ℕ) → IsPlain text whole fraction → AreDigits whole → AreDigits fraction → 0 < length whole + length fraction
    → Spells text (record { whole = whole; fraction = fraction; raised = 0; lowered = 0 })
spelt text whole fraction is digits behind some = record {
  plain = text;
  exponent = [];
  joined = sym (append-nil text);
  plain_is = is;
  exponent_is = (refl, refl);
  whole_digits = digits;
  fraction_digits = behind;
  some_digit = some;
}

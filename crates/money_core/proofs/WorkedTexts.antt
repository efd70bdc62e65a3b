-- Amounts and their texts, worked by hand: the definitions compute to these.
use Rattle.money_core.proofs.Names.{◌≡◌, pos, negsuc, codes, refl, digits}
use Rattle.money_core.specs.CentsText.{cents_text, signed_cents_text}

zero_cents : cents_text 0 ≡ codes "0.00"
unfolding digits
zero_cents = refl

five_cents : cents_text 5 ≡ codes "0.05"
unfolding digits
five_cents = refl

one_unit : cents_text 100 ≡ codes "1.00"
unfolding digits
one_unit = refl

greatest_word : cents_text 18446744073709551615 ≡ codes "184467440737095516.15"
unfolding digits
greatest_word = refl

a_premium : signed_cents_text (pos 12722) ≡ codes "127.22"
unfolding digits
a_premium = refl

a_debt : signed_cents_text (negsuc 39999) ≡ codes "-400.00"
unfolding digits
a_debt = refl

least_word : signed_cents_text (negsuc 9223372036854775807) ≡ codes "-92233720368547758.08"
unfolding digits
least_word = refl

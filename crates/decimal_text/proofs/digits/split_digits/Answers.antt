use Rattle.decimal_text.proofs.Names.{arith, is_ascii_digit}
use Rattle.std.proofs.lemmas.List.Sums.{prefix_len-le-length}
use Rattle.decimal_text.proofs.Cuts.{cut_at_prefix}
use Rattle.decimal_text.proofs.digits.split_digits.Goals as goal

pub split_at-requires : goal.split_at-requires
split_at-requires c = omega (arith, prefix_len-le-length is_ascii_digit c.args.text.now)

pub returns : goal.returns
returns c = rw (c.split_at.ensures.front, c.split_at.ensures.back, c.digits_len.ensures) (cut_at_prefix c.args.text.now)

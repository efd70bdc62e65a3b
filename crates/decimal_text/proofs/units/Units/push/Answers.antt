use Rattle.decimal_text.proofs.Names.{◌<◌, length, arith, length_push}
use Rattle.decimal_text.proofs.Pushes.{take-push_under, drop-push_under, take-push_past, drop-push_past}
use Rattle.decimal_text.proofs.units.Units.push.Goals as goal

pub returns-then-self-gt0 : goal.returns-then-self-gt0
returns-then-self-gt0 c = λ places seen h.
    let under : length seen < places = omega (arith, h.left) in
    let grown = length_push seen c.args.digit in
    record {
      count = rw (take-push_under places seen c.args.digit c.requires under) (omega (arith, h.count, c.min-self.ensures));
      left = omega (arith, h.left);
      exact = rw (drop-push_under places seen c.args.digit under) h.exact;
    }

pub returns-then-digit-ne48 : goal.returns-then-digit-ne48
returns-then-digit-ne48 c = λ places seen h.
    let grown = length_push seen c.args.digit in
    let below = drop-push_past places seen c.args.digit c.requires (omega (arith, h.left)) in
    record {
      count = rw (take-push_past places seen c.args.digit (omega (arith, h.left))) h.count;
      left = omega (arith, h.left);
      exact = (λ never. absurd (cc), λ none. absurd (omega (arith, below)));
    }

pub returns-else-digit-ne48 : goal.returns-else-digit-ne48
returns-else-digit-ne48 c = λ places seen h.
    let grown = length_push seen c.args.digit in
    let below = drop-push_past places seen c.args.digit c.requires (omega (arith, h.left)) in
    record {
      count = rw (take-push_past places seen c.args.digit (omega (arith, h.left))) h.count;
      left = omega (arith, h.left);
      exact = (λ yes. let none = h.exact.0 yes in omega (arith, below, none), λ none. h.exact.1 (omega (arith, below, none)));
    }

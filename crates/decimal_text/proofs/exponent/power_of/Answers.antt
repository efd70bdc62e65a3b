use Rattle.std.proofs.lemmas.List.{take_rest}
use Rattle.decimal_text.proofs.Readings.{no_exponent, IfNone-weaker}
use Rattle.decimal_text.proofs.exponent.power_of.Goals as goal

pub returns-in-69-clause-none : goal.returns-in-69-clause-none
returns-in-69-clause-none c =
    IfNone-weaker c.signed_power.result _ _ (λ none. no_exponent c.args.text.now none c.in-69.len_at_least) (rw (take_rest c.args.text.now 1) at c.signed_power.ensures.none)

use Rattle.std.proofs.Common.{refl, sym, ◌∙◌, arith}
use Rattle.money_core.proofs.CentsTextLemmas.{text_from_parts, cents_text_injective}
use Rattle.money_core.proofs.cents.parse_cents.Goals as goal
use Rattle.std.proofs.lemmas.Bool.{false≢true}

pub returns-in_err-cents-clause-none : goal.returns-in_err-cents-clause-none
returns-in_err-cents-clause-none c = rw c.from_residual-in_err-cents.ensures (λ n some small e.
    let parts = c.in_ok-whole.ensures.cases in
    let units = c.in_ok-units.ensures.number in
    let hundredths = c.in_ok-hundredths.ensures.hundredths in
    let text = text_from_parts _ _ _ _ _ hundredths.0 parts.0 parts.1 units.1 hundredths.1 in
    let same = cents_text_injective n _ (omega arith) (omega arith) (sym e ∙ text) in
    absurd (c.in_err-cents.ensures (omega arith)))

pub returns-else-is_amount-clause-none : goal.returns-else-is_amount-clause-none
returns-else-is_amount-clause-none c = λ n some small e.
    let parts = c.in_ok-whole.ensures.cases in
    let units = c.in_ok-units.ensures.number in
    let hundredths = c.in_ok-hundredths.ensures.hundredths in
    let text = text_from_parts _ _ _ _ _ hundredths.0 parts.0 parts.1 units.1 hundredths.1 in
    let same = cents_text_injective n _ (omega arith) (omega arith) (sym e ∙ text) in
    let sum = c.in_ok-cents.ensures in
    absurd (false≢true (c.if-is_amount.ensures.1 (omega arith, omega arith)))

pub returns-then-is_amount-clause-cents : goal.returns-then-is_amount-clause-cents
returns-then-is_amount-clause-cents c =
    let parts = c.in_ok-whole.ensures.cases in
    let units = c.in_ok-units.ensures.number in
    let hundredths = c.in_ok-hundredths.ensures.hundredths in
    let text = text_from_parts _ _ _ _ _ hundredths.0 parts.0 parts.1 units.1 hundredths.1 in
    let sum = c.in_ok-cents.ensures in
    let within = c.if-is_amount.ensures.0 refl in
    (within.0, within.1, rw sum.1 text)

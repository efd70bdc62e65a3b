use Rattle.life_args.proofs.Names.{◌≡◌, ℕ, ◌∙◌, sym, arith, decimal_injective, IsNumberValue}
use Rattle.life_args.proofs.values.number_of.Goals as goal

pub returns-in_default : goal.returns-in_default
returns-in_default c = λ (n : ℕ) (is : IsNumberValue c.args.least c.args.most c.args.value.now n).
    let same : c.in-Some.number ≡ n = decimal_injective c.in-Some.number n (omega (arith, c.in-Some.ensures.number.0)) (omega (arith, is.high))
    (sym c.in-Some.ensures.number.1 ∙ c.as_bytes.ensures.value ∙ is.is) in
    omega (arith, same, is.low)

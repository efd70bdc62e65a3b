use Rattle.life_args.proofs.Names.{◌≡◌, ℕ, ◌≤◌, ◌∙◌, ap, sym, arith, decimal, decimal_injective}
use Rattle.life_args.proofs.values.parse_count.Goals as goal

pub returns-in-0-clause-none : goal.returns-in-0-clause-none
returns-in-0-clause-none c = λ (n : ℕ) (low : 1 ≤ n) (high : n ≤ c.args.most) (same : c.args.text.now ≡ decimal n).
    let zero : c.args.text.now ≡ decimal 0 = sym c.as_bytes.ensures.value ∙ c.in_ok-number.ensures.number.1 ∙ ap decimal c.in-0.is in
    let none : 0 ≡ n = decimal_injective 0 n (omega arith) (omega arith) (sym zero ∙ same) in
    omega arith

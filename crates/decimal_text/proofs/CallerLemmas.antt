-- For callers: a text has one rate at most.
use Rattle.decimal_text.proofs.Names.{◌≡◌, ℕ, List, subst, IsInUnits, IsRate}
use Rattle.decimal_text.proofs.Readings.{one_decimal}
use Rattle.decimal_text.proofs.Answering.{same_value}

pub one_rate : (text : List ℕ) (rate other : ℕ) → IsRate text rate → IsRate text other → rate ≡ other
one_rate text rate other h k = same_value h.0 rate other h.2 (subst (λ d. IsInUnits other d) (one_decimal text k.0 h.0 k.1 h.1) k.2)

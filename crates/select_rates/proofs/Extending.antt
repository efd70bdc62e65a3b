-- Select rates alone, and with ultimate ones after them.
use Rattle.select_rates.proofs.Names.{◌≡◌, ℕ, ◌+◌, ◌-◌, ◌<◌, ◌++◌, List, length, arith, ◌∙◌, sym, ap, inl, inr, slice_index, slice_index_or, Rates, last_age_of, rate_at, AreRatesFrom, AreJoined}
use Rattle.std.proofs.lemmas.Bool.{cases_lt}
use Rattle.std.proofs.lemmas.Grind.{common_steps}
use Rattle.std.proofs.lemmas.List.{get_or_default, get_or_past, get_or-append_right, get_or_append_left}

pub alone : (ultimate : Rates) (age : ℕ) (select : List ℕ) → last_age_of ultimate < age + length select
    → AreJoined ultimate age select select
alone ultimate age select past = record {
  count = omega arith;
  each = λ k within. get_or_default select k 0 (rate_at ultimate (age + k)) within;
}

behind : (ultimate : Rates) (age : ℕ) (select tail : List ℕ) → AreRatesFrom ultimate (age + length select) tail
    → (k j : ℕ) → k ≡ length select + j → j < length tail
    → slice_index (select ++ tail) k ≡ slice_index_or select k (rate_at ultimate (age + k))
behind ultimate age select tail from k j place within =
    get_or-append_right select tail (length select) k 0 (omega arith) (omega arith)
    ∙ ap (λ i. slice_index tail i) (omega arith)
    ∙ from.each j within
    ∙ ap (λ i. rate_at ultimate i) (omega arith)
    ∙ sym (get_or_past select k (rate_at ultimate (age + k)) (omega arith))

pub extended : (ultimate : Rates) (age : ℕ) (select tail : List ℕ) → AreRatesFrom ultimate (age + length select) tail
    → AreJoined ultimate age select (select ++ tail)
extended ultimate age select tail from = record {
  count = let count = from.count in grind (arith, common_steps);
  each = λ k within. elim (cases_lt k (length select)) [
    | inl before ↦ get_or_append_left select tail 0 k before ∙ get_or_default select k 0 (rate_at ultimate (age + k)) before
    | inr after ↦ behind ultimate age select tail from k (k - length select) (omega arith) (grind (arith, common_steps))
  ];
}

-- Which factors leave the rates as they are.
use Rattle.xtbml_subset.proofs.Names.{◌≡◌, ℕ, Bool, true, false, eqb, ◌||◌, List, [], ◌++◌, Some, refl, sym, ap, subst, ◌∙◌, ◌⊎◌, inl, inr, MatchBool, eqb-true, eq-eqb, or_cases, or_left, or_right, true≢false, append-nil, IsRate, White, InClass, front, after, trimmed, IsUnscaled}
use Rattle.decimal_text.proofs.CallerLemmas.{one_rate}
use Rattle.xtbml_subset.proofs.Runs.{front-after, front_in}
use Rattle.xtbml_subset.proofs.LexAgain.{after_again}

pub all_white : (text : List ℕ) → after White text ≡ [] → InClass White text
all_white text e =
    let whole : text ≡ front White text = front-after White text ∙ ap (λ (s : List ℕ). front White text ++ s) e ∙ append-nil (front White text) in
    subst (InClass White) (sym whole) (front_in White text)

pub white_is_nothing : (text : List ℕ) → InClass White text → after White text ≡ []
white_is_nothing text white = ap (after White) (sym (append-nil text)) ∙ after_again White text [] white tt

unit_test : ℕ → Bool
unit_test rate = eqb rate 0 || eqb rate 1000000000

by_unit : (rate : ℕ) (P : Type 0) → (rate ≡ 0 → P) → (rate ≡ 1000000000 → P) → (P → (rate ≡ 0) ⊎ (rate ≡ 1000000000))
    → MatchBool (eqb rate 0 || eqb rate 1000000000) P (P → ⊥)
by_unit rate P zero one back =
    let M : Bool → Type 0 = λ t. (eqb rate 0 || eqb rate 1000000000) ≡ t → MatchBool t P (P → ⊥) in
    let both : M (eqb rate 0 || eqb rate 1000000000) = elim (eqb rate 0 || eqb rate 1000000000) as M [
      | true ↦ λ e. elim (or_cases (eqb rate 0) (eqb rate 1000000000) e) [ inl h ↦ zero (eqb-true rate 0 h) | inr h ↦ one (eqb-true rate 1000000000 h) ]
      | false ↦ λ e p. elim (back p) [
        | inl h ↦ true≢false (sym (or_left (eqb rate 0) (eqb rate 1000000000) (eq-eqb rate 0 h)) ∙ e)
        | inr h ↦ true≢false (sym (or_right (eqb rate 0) (eqb rate 1000000000) (eq-eqb rate 1000000000 h)) ∙ e)
      ]
    ] in
    both refl

pub unscaled_by : (text : List ℕ) (rate : ℕ) → IsRate (trimmed text) rate → (InClass White text → ⊥)
    → MatchBool (eqb rate 0 || eqb rate 1000000000) (IsUnscaled (Some text)) (IsUnscaled (Some text) → ⊥)
unscaled_by text rate is filled =
    by_unit rate (IsUnscaled (Some text))
    (λ e. inr (inl (subst (IsRate (trimmed text)) e is)))
    (λ e. inr (inr (subst (IsRate (trimmed text)) e is)))
    (λ u. elim u [
      | inl white ↦ absurd (filled white)
      | inr r ↦ elim r [ inl zero ↦ inl (one_rate (trimmed text) rate 0 is zero) | inr one ↦ inr (one_rate (trimmed text) rate 1000000000 is one) ]
    ])

pub scaled_by_none : (text : List ℕ) → ((rate : ℕ) → IsRate (trimmed text) rate → ⊥) → (InClass White text → ⊥) → IsUnscaled (Some text) → ⊥
scaled_by_none text none filled (inl white) = filled white
scaled_by_none text none filled (inr (inl zero)) = none 0 zero
scaled_by_none text none filled (inr (inr one)) = none 1000000000 one

-- The lines of the years, one after the other.
use Rattle.cash_projection.proofs.Names.{◌≡◌, ℕ, zero, suc, ◌+◌, ◌<◌, refl, ap, sym, ◌∙◌, arith, List, [], ◌∷◌, ◌++◌, length, take, get_or, append_assoc, append-nil, add-one, year_text, Year, flat_map, enumerate_from}

-- the years from the first on
abbrev pub years_text : ℕ → List Year → List ℕ
years_text first ys = flat_map (λ (year : ℕ × Year). year_text year.0 year.1) (enumerate_from first ys)

longer : (first : ℕ) (ys : List Year) (j : ℕ) (d : Year) → j < length ys
    → years_text first (take (suc j) ys) ≡ years_text first (take j ys) ++ year_text (first + j) (get_or ys j d)
longer first [] j d below = absurd (omega arith)
longer first (y ∷ ys) zero d below =
    let place : first + 0 ≡ first = omega arith in
    rw (append-nil (year_text first y), place) refl
longer first (y ∷ ys) (suc j) d below =
    let place : first + 1 + j ≡ first + suc j = omega arith in
    ap (λ z. year_text first y ++ z) (longer (first + 1) ys j d (omega arith) ∙ ap (λ n. years_text (first + 1) (take j ys) ++ year_text n (get_or ys j d)) place)
    ∙ sym (append_assoc (year_text first y) (years_text (first + 1) (take j ys)) (year_text (first + suc j) (get_or ys j d)))

-- one more year, from the first on
pub years_more : (ys : List Year) (j : ℕ) (d : Year) (before lines new : List ℕ) → j < length ys → lines ≡ before ++ years_text 0 (take j ys)
    → new ≡ lines ++ year_text j (get_or ys j d) → new ≡ before ++ years_text 0 (take (j + 1) ys)
years_more ys j d before lines new below was is =
    let place : 0 + j ≡ j = omega arith in
    is ∙ ap (λ z. z ++ year_text j (get_or ys j d)) was ∙ append_assoc before (years_text 0 (take j ys)) (year_text j (get_or ys j d))
    ∙ ap (λ z. before ++ z) (rw (add-one j) (sym (longer 0 ys j d below ∙ ap (λ n. years_text 0 (take j ys) ++ year_text n (get_or ys j d)) place)))

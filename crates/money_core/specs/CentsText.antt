-- How an amount of cents is written: `0.05`, `127.22`, `-400.00`.
use Rattle.std.specs.Prelude.{ℕ, suc, ◌+◌, ◌/◌, ◌%◌, List, [], ◌∷◌, ◌++◌, ℤ, pos, negsuc, decimal}

-- the whole part without leading zeros, a point, which is 46, and two digits, from `.00` to `.99`
abbrev pub cents_text : ℕ → List ℕ
cents_text n = let hundredths = n % 100 in
    decimal (n / 100) ++ 46 ∷ (48 + hundredths / 10) ∷ (48 + hundredths % 10) ∷ []

-- the same with a `-` before a negative amount
abbrev pub signed_cents_text : ℤ → List ℕ
signed_cents_text (pos n) = cents_text n
signed_cents_text (negsuc n) = 45 ∷ cents_text (suc n)

-- Rounded quotients.
use Rattle.present_value.proofs.Names.{ℕ, ◌+◌, ◌-◌, ◌*◌, ◌<◌, ◌≤◌, arith, lt_of_mul-lt-mul_right, down, up}

pub down-le : (n d : ℕ) → down n d * d ≤ n
down-le n d = omega arith

pub lt-down : (n d : ℕ) → 0 < d → n < (down n d + 1) * d
lt-down n d positive = omega arith

pub le-up : (n d : ℕ) → 0 < d → n ≤ up n d * d
le-up n d positive = let h = lt-down (n + (d - 1)) d positive in omega arith

pub up-lt : (n d : ℕ) → 0 < d → up n d * d < n + d
up-lt n d positive = let h = down-le (n + (d - 1)) d in omega arith

-- how far two rounded quotients differ, if the dividends differ by at most k times the divisor
pub apart : (m n d k : ℕ) → 0 < d → m ≤ n + k * d → up m d ≤ down n d + k + 1
apart m n d k positive near =
    let low = lt-down n d positive in
    let high = up-lt m d positive in
    let below : up m d * d < (down n d + k + 2) * d = omega arith in
    let bound : up m d < down n d + k + 2 = lt_of_mul-lt-mul_right d below in
    omega arith

pub up-le : (n d k : ℕ) → 0 < d → n ≤ k * d → up n d ≤ k
up-le n d k positive most =
    let high = up-lt n d positive in
    let below : up n d * d < (k + 1) * d = omega arith in
    let bound : up n d < k + 1 = lt_of_mul-lt-mul_right d below in
    omega arith

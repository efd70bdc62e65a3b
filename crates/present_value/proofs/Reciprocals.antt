-- A quotient by a rounded reciprocal: with p * h over the divisor as the reciprocal, and the number without its last
-- part below h, the estimate is the quotient or one less.
use Rattle.present_value.proofs.Names.{◌≡◌, ℕ, zero, suc, ◌+◌, ◌*◌, ◌/◌, ◌<◌, ◌≤◌, arith, down, up}
use Rattle.std.proofs.Math.Nat.{mul-le-mul_left, mul-le-mul_right, mul-lt-mul_of_pos_right, le_of_mul-le-mul_right, lt_of_mul-lt-mul_right, mul-pos, lt_of_le_of_lt}
use Rattle.present_value.proofs.Quotients.{down-le, lt-down, le-up, up-lt}

pub estimate-le : (number d m y e p h : ℕ) → 0 < p → 0 < h → e * p ≤ y * m → y * h ≤ number → m * d ≤ p * h → e * d ≤ number
estimate-le number d m y e p h p_pos h_pos low leading inverse =
    let first = mul-le-mul_right (d * h) low in
    let second = mul-le-mul_right (y * h) inverse in
    let third = mul-le-mul_right (p * h) leading in
    let spread : (e * d) * (p * h) ≤ number * (p * h) = omega arith in
    le_of_mul-le-mul_right spread (mul-pos p_pos h_pos)

pub lt-estimate : (number d m y e p h : ℕ) → 0 < p → 0 < h → 0 < d → y * m < (e + 1) * p → number < (y + 1) * h
    → p * h < (m + 1) * d → y + m < p → number < (e + 2) * d
lt-estimate number d m y e p h p_pos h_pos d_pos high leading inverse small =
    let first : (y + 1) * (m + 1) ≤ (e + 2) * p = omega arith in
    let second = mul-le-mul_right h first in
    let third = mul-lt-mul_of_pos_right {k = m + 1} leading (omega arith) in
    let bound : number * (m + 1) < (e + 2) * p * h = omega arith in
    let fourth = mul-lt-mul_of_pos_right {k = d} bound d_pos in
    let fifth : number * (p * h) ≤ number * ((m + 1) * d) = mul-le-mul_left number (omega arith) in
    let spread : number * (p * h) < ((e + 2) * d) * (p * h) = omega arith in
    lt_of_mul-lt-mul_right (p * h) spread

-- a quotient is known by its bounds
pub down-unique : (n d q : ℕ) → q * d ≤ n → n < (q + 1) * d → q ≡ down n d
down-unique n d q low high =
    let positive : 0 < d = pos_of d q high in
    let below : q * d < (down n d + 1) * d = lt_of_le_of_lt low (lt-down n d positive) in
    let above : down n d * d < (q + 1) * d = lt_of_le_of_lt (down-le n d) high in
    let most = lt_of_mul-lt-mul_right d below in
    let least = lt_of_mul-lt-mul_right d above in
    omega arith
  where
    pos_of : (d q : ℕ) {n : ℕ} → n < (q + 1) * d → 0 < d
    pos_of zero q high = absurd (omega arith)
    pos_of (suc d) q high = omega arith

pub up-unique : (n d q : ℕ) → 0 < d → n ≤ q * d → q * d < n + d → q ≡ up n d
up-unique n d q positive low high =
    let below : q * d < (up n d + 1) * d = omega (arith, le-up n d positive) in
    let above : up n d * d < (q + 1) * d = omega (arith, up-lt n d positive) in
    let most = lt_of_mul-lt-mul_right d below in
    let least = lt_of_mul-lt-mul_right d above in
    omega arith

-- what the leading part of a number and the reciprocal give
pub record IsEstimate (number d e : ℕ) : Type 0 where
  pub low : e * d ≤ number
  pub high : number < (e + 2) * d

pub estimated : (number d m : ℕ) → 536870912 < d → m ≡ 9903520314283042199192993792 / d → number < 2475880078570760549798248448
    → IsEstimate number d (number / 134217728 * m / 73786976294838206464)
estimated number d m least inverse most =
    let y = number / 134217728 in
    let e = y * m / 73786976294838206464 in
    let positive : 0 < d = omega arith in
    let m_low : m * d ≤ 9903520314283042199192993792 = rw inverse (down-le 9903520314283042199192993792 d) in
    let m_high : 9903520314283042199192993792 < (m + 1) * d = rw inverse (lt-down 9903520314283042199192993792 d positive) in
    let wide = mul-le-mul_left m least in
    let m_small : m < 18446744073709551616 = omega arith in
    let y_small : y < 18446744073709551616 = omega arith in
    record {
      low = estimate-le number d m y e 73786976294838206464 134217728 (omega arith) (omega arith)
          (down-le (y * m) 73786976294838206464) (down-le number 134217728) (omega arith);
      high = lt-estimate number d m y e 73786976294838206464 134217728 (omega arith) (omega arith) positive
          (lt-down (y * m) 73786976294838206464 (omega arith)) (lt-down number 134217728 (omega arith)) (omega arith) (omega arith);
    }

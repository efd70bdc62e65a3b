-- The level premium after the first year is that of the benefits and the premiums from the second year on.
use Rattle.crvm_reserve.proofs.Names.{◌≡◌, ℕ, suc, ◌+◌, ◌-◌, ◌*◌, ◌^◌, ◌<◌, ◌≤◌, refl, arith, Between, whole, less, over, Cover, year, survival, death, ben, ann, term_premium, renewal_premium, UNIT, ann_lo, positive_num, equal-between, ann-between, ann_lo-least}
use Rattle.std.proofs.Math.Nat.{mul-pos, pow-succ'}
use Rattle.present_value.proofs.Years.{ben_num, ann_num, ben_step, ann_step, ben_is, ann_is}
use Rattle.present_value.proofs.Enclosing.{year_pos, power_pos}

-- the two quotients are one: d is what the first year's deaths are worth, s a survivor, w a year, p the later years
same : (w p d s b a : ℕ) → (b * p) * (((w * p) * w) * (s * a)) ≡ (((d * p + s * b) * w - d * (w * p)) * ((w * p) * 1)) * (p * a)
same w p d s b a =
    let left : (d * p + s * b) * w - d * (w * p) ≡ s * b * w = omega arith in
    rw left (omega arith)

first_ann : (w p s a : ℕ) → (w * p + s * a) * 1 - 1 * (w * p) ≡ s * a
first_ann w p s a = omega arith

positive_over : (w p s a : ℕ) → 0 < w → 0 < p → 0 < s → 0 < a → 0 < (((w * p) * w) * ((w * p + s * a) * 1 - 1 * (w * p)))
positive_over w p s a w_pos p_pos s_pos a_pos =
    rw (first_ann w p s a) (mul-pos (mul-pos (mul-pos w_pos p_pos) w_pos) (mul-pos s_pos a_pos))

same_over : (w p d s b a : ℕ)
    → (b * p) * (((w * p) * w) * ((w * p + s * a) * 1 - 1 * (w * p))) ≡ (((d * p + s * b) * w - d * (w * p)) * ((w * p) * 1)) * (p * a)
same_over w p d s b a = rw (first_ann w p s a) (same w p d s b a)

-- the values at issue from those of the second year
ben_first : (c : Cover) (m : ℕ) → c.n ≡ suc m
    → ben c 0 ≡ record { num = death c 0 * year c ^ m + survival c 0 * ben_num c 1 m; den = year c * year c ^ m }
ben_first c m years =
    let left : c.n - 0 ≡ suc m = omega arith in
    rw (ben_is c 0 (suc m) left, ben_step c 0 m, pow-succ' (year c) m) refl

ann_first : (c : Cover) (m g : ℕ) → c.n ≡ suc m → c.h ≡ suc g
    → ann c 0 ≡ record { num = year c * year c ^ m + survival c 0 * ann_num c 1 m g; den = year c * year c ^ m }
ann_first c m g years payments =
    let due : c.h - 0 ≡ suc g = omega arith in
    let left : c.n - 0 ≡ suc m = omega arith in
    rw (ann_is c 0 (suc m) left, due, ann_step c 0 m g, pow-succ' (year c) m) refl

ben_second : (c : Cover) (m : ℕ) → c.n ≡ suc m → ben c 1 ≡ record { num = ben_num c 1 m; den = year c ^ m }
ben_second c m years = let left : c.n - 1 ≡ m = omega arith in ben_is c 1 m left

ann_second : (c : Cover) (m g : ℕ) → c.n ≡ suc m → c.h ≡ suc g → ann c 1 ≡ record { num = ann_num c 1 m g; den = year c ^ m }
ann_second c m g years payments =
    let left : c.n - 1 ≡ m = omega arith in
    let due : c.h - 1 ≡ g = omega arith in
    rw (ann_is c 1 m left, due) refl

-- the premiums from the second year on are worth something
second_due : (c : Cover) → 2 ≤ c.h → c.h ≤ c.n → 0 < (ann c 1).num
second_due c renewed covered =
    let least = ann_lo-least c 1 (omega arith) (omega arith) in
    let between = ann-between c 1 covered (omega arith) in
    positive_num UNIT (ann_lo c 1) (ann c 1).den (ann c 1).num (omega arith) between.proper between.above

renewal_as : (c : Cover) (m g lo hi : ℕ) → c.n ≡ suc m → c.h ≡ suc g → 0 < survival c 0 → 0 < ann_num c 1 m g
    → Between lo hi UNIT (over (ben c 1) (ann c 1)) → Between lo hi UNIT (renewal_premium c)
unfolding renewal_premium term_premium over less whole
renewal_as c m g lo hi years payments alive due between =
    let w = year c in
    let p = year c ^ m in
    let d = death c 0 in
    let s = survival c 0 in
    let b = ben_num c 1 m in
    let a = ann_num c 1 m g in
    let known = rw (ben_second c m years, ann_second c m g years payments) at between in
    rw (ben_first c m years, ann_first c m g years payments)
    (equal-between lo hi UNIT
    (record { num = b * p; den = p * a })
    (record { num = ((d * p + s * b) * w - d * (w * p)) * ((w * p) * 1); den = ((w * p) * w) * ((w * p + s * a) * 1 - 1 * (w * p)) })
    (positive_over w p s a (year_pos c) (power_pos c m) alive due) (same_over w p d s b a) known)

-- an enclosed level premium from the second year on encloses the renewal premium
pub renewal-between : (c : Cover) (lo hi : ℕ) → 2 ≤ c.h → c.h ≤ c.n → c.rates 0 ≤ 500000000
    → Between lo hi UNIT (over (ben c 1) (ann c 1)) → Between lo hi UNIT (renewal_premium c)
renewal-between c lo hi renewed covered half between =
    let years : c.n ≡ suc (c.n - 1) = omega arith in
    let payments : c.h ≡ suc (c.h - 1) = omega arith in
    let due = second_due c renewed covered in
    renewal_as c (c.n - 1) (c.h - 1) lo hi years payments (omega arith)
    (ap_num c (c.n - 1) (c.h - 1) years payments due) between
  where
    ap_num : (c : Cover) (m g : ℕ) → c.n ≡ suc m → c.h ≡ suc g → 0 < (ann c 1).num → 0 < ann_num c 1 m g
    ap_num c m g years payments due = rw (ann_second c m g years payments) at due

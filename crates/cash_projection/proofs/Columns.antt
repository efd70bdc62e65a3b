-- The sums of a column, year by year.
use Rattle.cash_projection.proofs.Names.{◌≡◌, ◌≢◌, ℕ, zero, suc, ◌+◌, ◌*◌, ◌<◌, ◌≤◌, refl, ap, ◌∙◌, arith, List, length, slice_set, inl, inr, get_or-set_same, get_or-set_other, length-set, cases_eq, pair_at, Pair, due, HasRisen, AreBothSums, sum_at, sums_of, Sums}
use Rattle.std.specs.Prelude.{replicate}
use Rattle.cash_projection.proofs.Dues.{due_cases, due_same}

pub empty_sum : (count k : ℕ) → sum_at (replicate count (sums_of 0 0)) k ≡ sums_of 0 0
empty_sum zero k = refl
empty_sum (suc count) zero = refl
empty_sum (suc count) (suc k) = empty_sum count k

due_none : (from cents k : ℕ) → due from from cents k ≡ 0
due_none from cents k = elim (due_cases from from cents k) [
  | inl a ↦ absurd (omega (arith, a.0, a.1))
  | inr a ↦ a.1
]

due_here : (from cents j : ℕ) → from ≤ j → due from (j + 1) cents j ≡ cents
due_here from cents j within = elim (due_cases from (j + 1) cents j) [
  | inl a ↦ a.2
  | inr a ↦ absurd (omega (arith, a.0 within))
]

due_other : (from cents j k : ℕ) → k ≢ j → due from (j + 1) cents k ≡ due from j cents k
due_other from cents j k other = due_same from (j + 1) from j cents k k (λ a b. (a, omega (arith, b, other))) (λ a b. (a, omega (arith, b)))

pub none_risen : (from cents : ℕ) (pairs : List Pair) (old : List Sums) → length old ≡ 131 → HasRisen from from cents pairs old old
none_risen from cents pairs old places = record {
  places = places;
  lo = λ j. rw (due_none from cents j) (omega arith);
  hi = λ j. rw (due_none from cents j) (omega arith);
}

-- what is there before a year is added
pub not_yet : (from j cents : ℕ) (pairs : List Pair) (old new : List Sums) → HasRisen from j cents pairs old new
    → ((sum_at new j).lo ≡ (sum_at old j).lo) × ((sum_at new j).hi ≡ (sum_at old j).hi)
not_yet from j cents pairs old new risen = elim (due_cases from j cents j) [
  | inl a ↦ absurd (omega (arith, a.1))
  | inr a ↦
      let lo : due from j cents j * (pair_at pairs j).lo ≡ 0 = rw a.1 (omega arith) in
      let hi : due from j cents j * (pair_at pairs j).hi ≡ 0 = rw a.1 (omega arith) in
      (omega (arith, risen.lo j), omega (arith, risen.hi j))
]

pub one_more_risen : (from j cents : ℕ) (pairs : List Pair) (old new : List Sums) (sums : Sums) → HasRisen from j cents pairs old new → from ≤ j → j < 131
    → sums.lo ≡ (sum_at new j).lo + cents * (pair_at pairs j).lo → sums.hi ≡ (sum_at new j).hi + cents * (pair_at pairs j).hi
    → HasRisen from (j + 1) cents pairs old (slice_set new j sums)
one_more_risen from j cents pairs old new sums risen begun below lo hi =
    let room : j < length new = omega (arith, risen.places) in
    let here = get_or-set_same new j sums (sums_of 0 0) room in
    let before = not_yet from j cents pairs old new risen in
    record {
      places = length-set new j sums ∙ risen.places;
      lo = λ k. elim (cases_eq k j) [
        | inl same ↦ rw (same, here, due_here from cents j begun) (omega (arith, lo, before.0))
        | inr other ↦ rw (get_or-set_other new j k sums (sums_of 0 0) other, due_other from cents j k other) (risen.lo k)
      ];
      hi = λ k. elim (cases_eq k j) [
        | inl same ↦ rw (same, here, due_here from cents j begun) (omega (arith, hi, before.1))
        | inr other ↦ rw (get_or-set_other new j k sums (sums_of 0 0) other, due_other from cents j k other) (risen.hi k)
      ];
    }

-- the years from one on are as they were
pub record StaysFrom (j : ℕ) (old new : List Sums) : Type 0 where
  pub each : (k : ℕ) → j ≤ k → sum_at new k ≡ sum_at old k

pub one_more_joined : (j : ℕ) (ours theirs new : List Sums) (sums : Sums) → AreBothSums j ours theirs new → StaysFrom j ours new → j < 131
    → sums.lo ≡ (sum_at new j).lo + (sum_at theirs j).lo → sums.hi ≡ (sum_at new j).hi + (sum_at theirs j).hi
    → AreBothSums (j + 1) ours theirs (slice_set new j sums) × StaysFrom (j + 1) ours (slice_set new j sums)
one_more_joined j ours theirs new sums joined stays below lo hi =
    let room : j < length new = omega (arith, joined.places) in
    let here = get_or-set_same new j sums (sums_of 0 0) room in
    let was = stays.each j (omega arith) in
    let was_lo : (sum_at new j).lo ≡ (sum_at ours j).lo = ap (λ (s : Sums). s.lo) was in
    let was_hi : (sum_at new j).hi ≡ (sum_at ours j).hi = ap (λ (s : Sums). s.hi) was in (
      record {
        places = length-set new j sums ∙ joined.places;
        lo = λ k within. elim (cases_eq k j) [
          | inl same ↦ rw (same, here) (omega (arith, lo, was_lo))
          | inr other ↦ rw (get_or-set_other new j k sums (sums_of 0 0) other) (joined.lo k (omega arith))
        ];
        hi = λ k within. elim (cases_eq k j) [
          | inl same ↦ rw (same, here) (omega (arith, hi, was_hi))
          | inr other ↦ rw (get_or-set_other new j k sums (sums_of 0 0) other) (joined.hi k (omega arith))
        ];
      },
      record {
        each = λ k from.
            let other : k ≢ j = omega arith in
            get_or-set_other new j k sums (sums_of 0 0) other ∙ stays.each k (omega arith);
      },
    )

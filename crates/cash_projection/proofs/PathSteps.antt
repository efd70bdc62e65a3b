-- A path, one year after the other.
use Rattle.cash_projection.proofs.Names.{◌≡◌, ℕ, zero, suc, ◌+◌, ◌-◌, ◌*◌, ◌/◌, ◌%◌, ◌<◌, ◌≤◌, refl, ap, sym, ◌∙◌, arith, List, length, slice_set, slice_index_or, subst, inl, inr, add-one, All, le_refl, get_or-set_same, get_or-set_other, length-replicate, length-set, cases_eq, Rates, ONE, UNIT, down, up, pair_of, pair_at, Pair, table_along, Dated, alive_by, alive_pair, dying_pair, KnowsYears, AreRatesOf, IsSurvivalPath, IsPathAt, IsRightPath, SurvivalPath}
use Rattle.std.specs.Prelude.{replicate}
use Rattle.cash_projection.specs.declared.path.PathKey.{PathKey}

-- a part of a number, of what a division gives and of what it leaves
pub part_apart : (whole part : ℕ) → whole * part ≡ whole / ONE * part * ONE + whole % ONE * part
part_apart whole part =
    let cut : whole ≡ whole / ONE * ONE + whole % ONE = omega arith in
    ap (λ n. n * part) cut ∙ grind arith

same_at : (count k : ℕ) (pair : Pair) → k < count → pair_at (replicate count pair) k ≡ pair
same_at zero k pair below = absurd (omega (arith, below))
same_at (suc count) zero pair below = refl
same_at (suc count) (suc k) pair below = same_at count k pair (omega arith)

-- at the start all are alive
pub none_known : (rates : ℕ → ℕ) (count : ℕ) (dead : List Pair) → count ≡ 132 → length dead ≡ 132
    → KnowsYears rates 0 (replicate count (pair_of UNIT UNIT)) dead
unfolding alive_by
none_known rates count dead all places = record {
  alive_places = length-replicate count (pair_of UNIT UNIT) ∙ all;
  dying_places = places;
  alive = λ k within.
      let start : k ≡ 0 = omega arith in
      rw start (same_at count 0 (pair_of UNIT UNIT) (omega arith));
  dying = λ k below. absurd (omega (arith, below));
}

pair_is : (pair : Pair) (lo hi : ℕ) → pair.lo ≡ lo → pair.hi ≡ hi → pair ≡ pair_of lo hi
pair_is pair lo hi low high = ap (λ n. pair_of n pair.hi) low ∙ ap (λ n. pair_of lo n) high

alive_next : (rates : ℕ → ℕ) (k rate : ℕ) (now pair : Pair) → now ≡ alive_pair rates k → rate ≡ rates k
    → pair.lo ≡ down (now.lo * (ONE - rate)) ONE → pair.hi ≡ up (now.hi * (ONE - rate)) ONE → pair ≡ alive_pair rates (k + 1)
unfolding alive_by
alive_next rates k rate now pair now_is rate_is lo hi =
    rw (add-one k) (pair_is pair _ _ (lo ∙ rw (now_is, rate_is) refl) (hi ∙ rw (now_is, rate_is) refl))

dying_next : (rates : ℕ → ℕ) (k rate : ℕ) (now pair : Pair) → now ≡ alive_pair rates k → rate ≡ rates k
    → pair.lo ≡ down (now.lo * rate) ONE → pair.hi ≡ up (now.hi * rate) ONE → pair ≡ dying_pair rates k
dying_next rates k rate now pair now_is rate_is lo hi =
    pair_is pair _ _ (lo ∙ rw (now_is, rate_is) refl) (hi ∙ rw (now_is, rate_is) refl)

-- one more year is known
pub one_more_known : (rates : ℕ → ℕ) (k rate : ℕ) (living dead : List Pair) (p q : Pair) → KnowsYears rates k living dead → k < 131 → rate ≡ rates k
    → p.lo ≡ down ((pair_at living k).lo * rate) ONE → p.hi ≡ up ((pair_at living k).hi * rate) ONE
    → q.lo ≡ down ((pair_at living k).lo * (ONE - rate)) ONE → q.hi ≡ up ((pair_at living k).hi * (ONE - rate)) ONE
    → KnowsYears rates (k + 1) (slice_set living (k + 1) q) (slice_set dead k p)
one_more_known rates k rate living dead p q knows below rate_is plo phi qlo qhi =
    let now = knows.alive k (le_refl k) in
    let p_is = dying_next rates k rate (pair_at living k) p now rate_is plo phi in
    let q_is = alive_next rates k rate (pair_at living k) q now rate_is qlo qhi in
    let room : k + 1 < length living = omega (arith, knows.alive_places) in
    let place : k < length dead = omega (arith, knows.dying_places) in
    record {
      alive_places = length-set living (k + 1) q ∙ knows.alive_places;
      dying_places = length-set dead k p ∙ knows.dying_places;
      alive = λ j within. elim (cases_eq j (k + 1)) [
        | inl same ↦ rw same (get_or-set_same living (k + 1) q (pair_of 0 0) room ∙ q_is)
        | inr other ↦ get_or-set_other living (k + 1) j q (pair_of 0 0) other ∙ knows.alive j (omega arith)
      ];
      dying = λ j within. elim (cases_eq j k) [
        | inl same ↦ rw same (get_or-set_same dead k p (pair_of 0 0) place ∙ p_is)
        | inr other ↦ get_or-set_other dead k j p (pair_of 0 0) other ∙ knows.dying j (omega arith)
      ];
    }

-- the rates of a key are one table
one_of : (basis : List Dated) (key : PathKey) (rates other : Rates) → AreRatesOf basis key rates → AreRatesOf basis key other → rates ≡ other
one_of basis key rates other row again =
    let found = row.1 in
    let found' = again.1 in
    let same : row.0 ≡ again.0 = cc in
    row.2 ∙ ap (λ (e : Dated). table_along e.table key.issue) same ∙ sym again.2

-- a path by the rates of its key is right by them
pub right_by_key : (basis : List Dated) (key : PathKey) (rates : Rates) (path : SurvivalPath) → path.key ≡ key → AreRatesOf basis key rates → IsSurvivalPath rates key.age path
    → IsRightPath basis path
right_by_key basis key rates path of row is young other again =
    let same = one_of basis key rates other row (rw of at again) in
    subst (λ (r : Rates). IsSurvivalPath r path.key.age path) same (subst (λ (k : PathKey). IsSurvivalPath rates k.age path) (sym of) is)

-- the path that is kept at a place, or put there
pub kept_here : (basis : List Dated) (key : PathKey) (rates : Rates) (kept : List SurvivalPath) (place : ℕ) → All (IsRightPath basis) kept → place < length kept
    → key.age ≤ 130 → AreRatesOf basis key rates → ((none : SurvivalPath) → (slice_index_or kept place none).key ≡ key) → IsPathAt rates key.age kept place
kept_here basis key rates kept place all within young row of = record {
  within = within;
  here = λ none.
      let is = of none in
      let old : (slice_index_or kept place none).key.age ≤ 130 = rw is young in
      rw is at (all place none within old rates (rw is row));
}

pub put_here : (rates : Rates) (age : ℕ) (kept : List SurvivalPath) (place : ℕ) (path : SurvivalPath) → place < length kept → IsSurvivalPath rates age path
    → IsPathAt rates age (slice_set kept place path) place
put_here rates age kept place path within is = record {
  within = rw (length-set kept place path) within;
  here = λ none. rw (get_or-set_same kept place path none within) is;
}

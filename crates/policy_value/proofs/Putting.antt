-- The values of columns, one column's after the other's.
use Rattle.policy_value.proofs.Names.{◌≡◌, ℕ, ◌+◌, ◌-◌, ◌≤◌, ◌<◌, List, [], ◌∷◌, ◌++◌, length, get_or, All, refl, ap, ◌∙◌, inl, inr, arith, get_or_append_left, get_or_default, get_or_push, length_push, All-weaker, All-push, Rates, value_to, Dated, IsRightColumn, IsRowOf, HasAgeAt, HasPut}
use Rattle.std.proofs.lemmas.Bool.{cases_lt}
use Rattle.present_value.specs.Values.{pair_at, pair_of}
use Rattle.present_value.specs.declared.pair.Pair.{Pair}
use Rattle.present_value.specs.declared.column.Stream.{Stream}
use Rattle.policy_value.specs.declared.columns.ColumnKey.{ColumnKey}
use Rattle.policy_value.specs.declared.columns.KeptColumn.{KeptColumn}
use Rattle.policy_value.proofs.Keeping.{one_row}

-- nothing was put yet
pub put_none : (table : Rates) (bp : ℕ) (stream : Stream) (end lowest : ℕ) (old : List Pair) → HasPut table bp stream end lowest lowest old old
put_none table bp stream end lowest old = record {
  count = omega arith;
  before = λ k low. refl;
  values = λ age above below. absurd (omega (arith, above, below));
}

-- one more value
pub put_more : (table : Rates) (bp : ℕ) (stream : Stream) (end lowest age : ℕ) (old new : List Pair) (pair : Pair) → lowest ≤ age
    → HasPut table bp stream end lowest age old new → pair ≡ value_to table bp stream end age → HasPut table bp stream end lowest (age + 1) old (new ++ pair ∷ [])
put_more table bp stream end lowest age old new pair first put is = record {
  count = omega (arith, length_push new pair, put.count, first);
  before = λ k low. get_or_append_left new (pair ∷ []) (pair_of 0 0) k (omega (arith, put.count, low)) ∙ put.before k low;
  values = λ at above below. elim (cases_lt at age) [
    | inl lower ↦ get_or_append_left new (pair ∷ []) (pair_of 0 0) (length old + (at - lowest)) (omega (arith, put.count, above, lower)) ∙ put.values at above lower
    | inr high ↦ last at (omega (arith, below, high))
  ];
}
  where
    last : (at : ℕ) → at ≡ age → pair_at (new ++ pair ∷ []) (length old + (at - lowest)) ≡ value_to table bp stream end at
    last at same =
        let place : length old + (at - lowest) ≡ length new = omega (arith, put.count, same) in
        rw (place, same) (get_or_push new pair (pair_of 0 0) (length new) refl ∙ is)

-- a column stays right where others are put after it
pub right_before : (basis : List Dated) (table : Rates) (bp : ℕ) (stream : Stream) (end lowest below : ℕ) (old new : List Pair)
    → HasPut table bp stream end lowest below old new → (kept : KeptColumn) → IsRightColumn basis old kept → IsRightColumn basis new kept
right_before basis table bp stream end lowest below old new put kept right = record {
  ages = right.ages;
  within = omega (arith, right.within, put.count);
  by_row = λ other more row age above until.
      put.before (kept.first + (age - kept.lowest)) (omega (arith, right.within, above, until)) ∙ right.by_row other more row age above until;
}

-- and the new one is right
pub right_put : (basis : List Dated) (table : Rates) (bp : ℕ) (old new : List Pair) (kept : KeptColumn) → IsRowOf basis kept.basis_row kept.issue table bp
    → kept.lowest ≤ kept.end → kept.first ≡ length old → HasPut table bp kept.stream kept.end kept.lowest (kept.end + 1) old new
    → IsRightColumn basis new kept
right_put basis table bp old new kept row ends first put = record {
  ages = ends;
  within = omega (arith, ends, first, put.count);
  by_row = λ other more again age above until.
      let same = one_row basis kept.basis_row kept.issue table other bp more row again in
      rw (← same.0, ← same.1, first) (put.values age above (omega (arith, until)));
}

pub all_put : (basis : List Dated) (table : Rates) (bp : ℕ) (old new : List Pair) (columns : List KeptColumn) (kept : KeptColumn)
    → All (IsRightColumn basis old) columns → IsRowOf basis kept.basis_row kept.issue table bp
    → kept.lowest ≤ kept.end → kept.first ≡ length old → HasPut table bp kept.stream kept.end kept.lowest (kept.end + 1) old new
    → All (IsRightColumn basis new) (columns ++ kept ∷ [])
all_put basis table bp old new columns kept all row ends first put =
    All-push (IsRightColumn basis new) columns kept (All-weaker (IsRightColumn basis old) (IsRightColumn basis new) (right_before basis table bp kept.stream kept.end kept.lowest (kept.end + 1) old new put) columns all)
    (right_put basis table bp old new kept row ends first put)

-- a column that has the value at an age has those at later ones
pub later_age : (columns : List KeptColumn) (place : ℕ) (key : ColumnKey) (low age : ℕ) → low ≤ age → HasAgeAt columns place key low → HasAgeAt columns place key age
later_age columns place key low age later at = record {
  within = at.within;
  here = λ none. let has = at.here none in (has.0, has.1, has.2, has.3, omega (arith, has.4, later));
}

-- the value at an age in the column that is where that of a key is kept
pub kept_value : (basis : List Dated) (pairs : List Pair) (columns : List KeptColumn) (place age : ℕ) (key : ColumnKey) (table : Rates) (bp : ℕ) (none : KeptColumn) (nil : Pair)
    → All (IsRightColumn basis pairs) columns → HasAgeAt columns place key age → IsRowOf basis key.basis_row key.issue table bp → age ≤ key.end
    → get_or pairs ((get_or columns place none).first + (age - (get_or columns place none).lowest)) nil ≡ value_to table bp key.stream key.end age
kept_value basis pairs columns place age key table bp none nil all at row until =
    let kept = get_or columns place none in
    let here = at.here none in
    let right = all place none at.within in
    let holds = right.by_row table bp (rw (here.0, here.1) row) in
    let above : kept.lowest ≤ age = here.4 in
    let below : age ≤ kept.end = rw here.3 until in
    let within : kept.first + (age - kept.lowest) < length pairs = omega (arith, right.within, above, below) in
    get_or_default pairs (kept.first + (age - kept.lowest)) nil (pair_of 0 0) within ∙ holds age above below
    ∙ ap (λ s. value_to table bp s kept.end age) here.2 ∙ ap (λ e. value_to table bp key.stream e age) here.3

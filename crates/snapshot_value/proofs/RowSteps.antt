-- The rows of policies, put together
use Rattle.snapshot_value.proofs.Names.{◌≡◌, ℕ, ◌≤◌, ℤ, List, [], ◌∷◌, ◌++◌, length, arith, AllByRecursion, AllZip, Dated, zip_append, Policy, Measure, Row, AreSmallRows, IsSmallRow}
use Rattle.std.proofs.lemmas.Slice.Zip.{AllZip-long}
use Rattle.policy_value.specs.Measures.{most_worth}
use Rattle.policy_value.specs.Rows.{IsWithinAmount}
use Rattle.policy_value.specs.declared.worth.Measure.TheVariants.{Terminal, Mean, Deficiency}
use Rattle.policy_value.specs.declared.worth.Worth.{Worth}
use Rattle.policy_value.specs.declared.worth.Worth.TheVariants.{Bounds, Both, Word}
use Rattle.policy_value.specs.Rows.{IsValuedRow}
use Rattle.snapshot_value.specs.Valuing.{most_amount}

pub all_append : {A : Type 0} (P : A → Type 0) (xs more : List A) → AllByRecursion P xs → AllByRecursion P more → AllByRecursion P (xs ++ more)
all_append P [] more all then = then
all_append P (x ∷ xs) more all then = (all.0, all_append P xs more all.1 then)

-- bounds within an amount that may be insured
within_more : (small large : ℕ) (worth : Worth) → small ≤ large → IsWithinAmount small worth → IsWithinAmount large worth
within_more small large (Bounds lo hi) most within = (within.0, omega (arith, within.1, most))
within_more small large (Both lo hi min_lo min_hi test) most within =
    (within.0, omega (arith, within.1, most), within.2, omega (arith, within.3, most))
within_more small large (Word word) most within = tt

most_worth-more : (measure : Measure) (small large : ℕ) → small ≤ large → most_worth measure small ≤ most_worth measure large
most_worth-more Terminal small large most = most
most_worth-more Mean small large most = omega (arith, most)
most_worth-more Deficiency small large most = most

pub within_most : (measure : Measure) (amount : ℕ) (worth : Worth) → amount ≤ most_amount → IsWithinAmount (most_worth measure amount) worth
    → IsWithinAmount (most_worth measure most_amount) worth
within_most measure amount worth most within =
    within_more (most_worth measure amount) (most_worth measure most_amount) worth (most_worth-more measure amount most_amount most) within

module _ (basis : List Dated) (on : ℤ) (measure : Measure) where
  -- none
  pub rows_none : AreSmallRows basis on measure [] []
  rows_none = record { each = tt; within = tt }

  -- some, and then some
  pub rows_more : (first then : List Policy) (rows more : List Row) → AreSmallRows basis on measure first rows → AreSmallRows basis on measure then more
      → AreSmallRows basis on measure (first ++ then) (rows ++ more)
  rows_more first then rows more are adds = record {
    each = zip_append (IsValuedRow basis on measure) first rows then more are.each adds.each;
    within = all_append (λ (row : Row). IsWithinAmount (most_worth measure most_amount) row.worth) rows more are.within adds.within;
  }

  -- one for each
  pub rows_length : (policies : List Policy) (rows : List Row) → AreSmallRows basis on measure policies rows → length rows ≡ length policies
  rows_length policies rows are = AllZip-long (IsValuedRow basis on measure) policies rows are.each

  -- each of them small
  pub rows_each : (policies : List Policy) (rows : List Row) → AllZip (IsSmallRow basis on measure) policies rows → AreSmallRows basis on measure policies rows
  rows_each [] [] all = rows_none
  rows_each [] (row ∷ rows) all = absurd all
  rows_each (policy ∷ policies) [] all = absurd all
  rows_each (policy ∷ policies) (row ∷ rows) all =
      let more = rows_each policies rows all.1 in record { each = (all.0.0, more.each); within = (all.0.1, more.within) }

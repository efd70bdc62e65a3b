-- Workers, before and after their work
use Rattle.snapshot_value.proofs.Names.{List, [], ◌∷◌, ℤ, inl, inr, AllByRecursion, Dated, AddsBehind, AreAsBefore, AreValues, MayGive, TakeAll, all_more, zip_more, Policy, IsSound, Measure, Row, AreSmallRows, GivesRow, IsReadyWorker, IsSmallRow, TakesPolicy, ValuesBy}
use Rattle.snapshot_value.specs.declared.worker.Worker.{Worker}
use Rattle.snapshot_value.proofs.RowSteps.{rows_each}

-- workers that are ready take sound policies
pub ready_take : (workers : List Worker) (policies : List Policy) → AllByRecursion IsReadyWorker workers → AllByRecursion IsSound policies
    → TakeAll TakesPolicy workers policies
ready_take workers policies ready sound =
    all_more IsReadyWorker (λ (worker : Worker). AllByRecursion (TakesPolicy worker) policies) workers
    (λ worker takes. all_more IsSound (TakesPolicy worker) policies takes sound) ready

-- and still do afterwards
pub ready_still : (old new : List Worker) → AreAsBefore TakesPolicy GivesRow old new → AllByRecursion IsReadyWorker old → AllByRecursion IsReadyWorker new
ready_still [] [] all ready = tt
ready_still [] (w ∷ new) all ready = absurd all
ready_still (v ∷ old) [] all ready = absurd all
ready_still (v ∷ old) (w ∷ new) all ready =
    (λ policy sound. all.0.takes_still policy (ready.0 policy sound), ready_still old new all.1 ready.1)

module _ (basis : List Dated) (on : ℤ) (measure : Measure) where
  pub by_still : (old new : List Worker) → AreAsBefore TakesPolicy GivesRow old new → AllByRecursion (ValuesBy basis on measure) old
      → AllByRecursion (ValuesBy basis on measure) new
  by_still [] [] all by = tt
  by_still [] (w ∷ new) all by = absurd all
  by_still (v ∷ old) [] all by = absurd all
  by_still (v ∷ old) (w ∷ new) all by =
      (λ policy row given. by.0 policy row (all.0.gives_only policy row given), by_still old new all.1 by.1)

  -- what one of them gives is the policy's row
  may_value : (workers : List Worker) → AllByRecursion (ValuesBy basis on measure) workers → (policy : Policy) (row : Row)
      → MayGive GivesRow workers policy row → IsSmallRow basis on measure policy row
  may_value [] by policy row may = absurd may
  may_value (w ∷ workers) by policy row (inl given) = by.0 policy row given
  may_value (w ∷ workers) by policy row (inr may) = may_value workers by.1 policy row may

  pub given_rows : (workers : List Worker) (policies : List Policy) (rows : List Row) → AllByRecursion (ValuesBy basis on measure) workers
      → AreValues GivesRow workers policies rows → AreSmallRows basis on measure policies rows
  given_rows workers policies rows by given =
      rows_each basis on measure policies rows (zip_more (MayGive GivesRow workers) (IsSmallRow basis on measure) policies rows (may_value workers by) given)

  -- rows that they added
  pub added_rows : (workers : List Worker) (policies : List Policy) (old new : List Row) → AllByRecursion (ValuesBy basis on measure) workers
      → AddsBehind (AreValues GivesRow workers policies) old new → AddsBehind (AreSmallRows basis on measure policies) old new
  added_rows workers policies old new by added = (added.0, added.1, given_rows workers policies added.0 by added.2)

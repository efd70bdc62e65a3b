-- A cover by a row of the basis.
use Rattle.policy_value.proofs.Names.{◌≡◌, ℕ, ◌+◌, ◌≤◌, List, Some, slice_get, sym, ap, ◌∙◌, arith, Rates, AreRates, Cover, cover_of, AreValuesAt, CanReserve, IsPaidUpFor, Dated, IsCovered, cap_by, cover_by, Covered}
use Rattle.rate_table.specs.declared.shape.Shape.{Shape}
use Rattle.select_rates.specs.Along.{table_along}
use Rattle.select_rates.specs.declared.any.AnyTable.{AnyTable}
use Rattle.policy_types.specs.declared.command.Plan.{Plan}
use Rattle.policy_types.specs.Valid.{AreYears}
use Rattle.plan_benefits.specs.Shapes.{FitsAny, FitsTable}
use Rattle.present_value.specs.declared.pair.Values.{Values}
use Rattle.crvm_reserve.proofs.Tables.{reserved}
use Rattle.policy_value.specs.Covers.{AreByDuration, cap_along, cover_along}

can_reserve : (plan : Plan) (years bp : ℕ) (table : Rates) (shape : Shape) → FitsTable plan years table shape → AreYears plan shape.age years → bp ≤ 2000
    → CanReserve table shape bp
can_reserve plan years bp table shape fits are low =
    let renewed = fits.renewed are in
    record {
      value = record { paid = omega arith; covered = fits.paid; first = fits.first; last = fits.last; interest = low };
      renewed = renewed;
      first = fits.half;
    }

-- what the rates at hand are by a row whose table and interest these are
pub covered_by : (basis : List Dated) (entry : Dated) (plan : Plan) (years place : ℕ) (table : AnyTable) (bp : ℕ) (covered : Covered)
    → slice_get basis place ≡ Some entry → table ≡ entry.table → bp ≡ entry.bp
    → FitsAny plan years table covered.shape → AreYears plan covered.shape.age years → bp ≤ 2000
    → (covered.own.basis_row ≡ place) × (covered.next.basis_row ≡ place) → (covered.own.bp ≡ bp) × (covered.next.bp ≡ bp)
    → (covered.own.table.now ≡ table_along table covered.shape.age) × (covered.own.table.now ≡ table_along table covered.own.issue)
    → (covered.next.table.now ≡ table_along table (covered.shape.age + 1)) × (covered.next.table.now ≡ table_along table covered.next.issue)
    → IsCovered basis entry covered
covered_by basis entry plan years place table bp covered at is points fits are low rows bps own next =
    let same = λ (age : ℕ). ap (λ (t : AnyTable). table_along t age) is in
    record {
      row = ap (λ (k : ℕ). slice_get basis k) rows.0 ∙ at;
      own = own.0 ∙ same covered.shape.age;
      next = next.0 ∙ same (covered.shape.age + 1);
      interest = bps.0 ∙ points;
      one = bps.1 ∙ sym bps.0;
      own_row = (entry, ap (λ (k : ℕ). slice_get basis k) rows.0 ∙ at, own.1 ∙ same covered.own.issue, bps.0 ∙ points);
      next_row = (entry, ap (λ (k : ℕ). slice_get basis k) rows.1 ∙ at, next.1 ∙ same covered.next.issue, bps.1 ∙ points);
      ages = rw own.0 fits.fits.within;
      can = rw (own.0, bps.0) (can_reserve plan years bp (table_along table covered.shape.age) covered.shape fits.fits are low);
      capped = rw next.0 fits.next.holds;
    }

-- the values of a cover by a table serve for a paid-up policy
pub paid_up_for : (table : Rates) (shape : Shape) (bp t : ℕ) (values : Values) → AreRates table → CanReserve table shape bp → t ≤ shape.n
    → AreValuesAt (cover_of table shape bp) t values → IsPaidUpFor (cover_of table shape bp) t values
paid_up_for table shape bp t values are can year values_are =
    let value = can.value in
    let first = value.first in
    let last = value.last in
    let covered = value.covered in
    let renewed = can.renewed in
    let is = reserved table table shape bp are are can (omega arith, omega arith) in
    record { within = year; years = is.years; rates = is.rates; values_are = values_are }

-- the rates of a cover and of its cap are by duration
pub by_duration : (plan : Plan) (years bp : ℕ) (table : AnyTable) (shape : Shape) → FitsAny plan years table shape
    → AreByDuration table shape.age (cover_along table shape bp) (cap_along table shape.age bp)
by_duration plan years bp table shape fits =
    let first = fits.fits.first in
    let last = fits.fits.last in
    let holds = fits.next.holds in
    record {
      own = λ k below. fits.own.rates k (omega arith, omega arith);
      next = λ k below. fits.next.rates k (omega (arith, holds), omega (arith, holds));
    }

-- what is by the rates at hand is by the table
pub worth_along : (table : AnyTable) (bp : ℕ) (covered : Covered) (P : Cover → Cover → Type 0)
    → covered.own.table.now ≡ table_along table covered.shape.age → covered.next.table.now ≡ table_along table (covered.shape.age + 1) → covered.own.bp ≡ bp
    → P (cover_by covered) (cap_by covered) → P (cover_along table covered.shape bp) (cap_along table covered.shape.age bp)
worth_along table bp covered P own next interest h = rw (← own, ← next, ← interest) h

-- What a valuation holds between two reads
use Rattle.std.specs.Prelude.{◌≡◌, ◌≤◌, ◌*◌, ℕ, ℤ, List, ◌++◌, length, min}
use Rattle.snapshot_value.specs.Names.{AllByRecursion, AllZip, Dated, Policy, IsSound, most_worth, IsWithinAmount, Measure, Row}
use Rattle.policy_value.specs.Rows.{IsValuedRow}
use Rattle.snapshot_value.specs.Valuing.{most_amount}
use Rattle.snapshot_value.specs.declared.worksheet.Worksheet.{Worksheet}
use Rattle.snapshot_value.specs.inside.Workers.{IsReadyWorker, ValuesBy}

-- the rows of the policies, one for each and in their order, each within what a policy may insure
pub record AreSmallRows (basis : List Dated) (on : ℤ) (measure : Measure) (policies : List Policy) (rows : List Row) : Type 0 where
  pub each : AllZip (IsValuedRow basis on measure) policies rows
  pub within : AllByRecursion (λ (row : Row). IsWithinAmount (most_worth measure most_amount) row.worth) rows

-- the policies that were read can be valued
pub record IsSheetReady (sheet : Worksheet) : Type 0 where
  pub some : 1 ≤ length sheet.workers.items
  pub few : length sheet.workers.items ≤ 64
  pub ready : AllByRecursion IsReadyWorker sheet.workers.items
  pub sound : AllByRecursion IsSound sheet.read.items

-- Of the policies, in order, the first have their rows by this basis on this day by this measure; the others were
-- read and aren't valued yet.
pub record HasMade (basis : List Dated) (on : ℤ) (measure : Measure) (policies : List Policy) (sheet : Worksheet) : Type 0 where
  pub can : IsSheetReady sheet
  pub by : AllByRecursion (ValuesBy basis on measure) sheet.workers.items
  pub valued : List Policy
  pub all : policies ≡ valued ++ sheet.read.items
  pub rows : AreSmallRows basis on measure valued sheet.rows.items

-- how many policies so many workers value together: 32,768 each, and at most 131,072
abbrev pub valued_together : ℕ → ℕ
valued_together workers = min (32768 * workers) 131072

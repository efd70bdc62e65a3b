-- What is kept of a document for its table, and the result by it: for a table by age alone, for a select table, and
-- for one of either kind.
use Rattle.std.specs.Prelude.{◌≡◌, ℕ, if◌then◌else◌, List, [], ◌∷◌, drop, map, Option, None, Result, Ok, Err, codes, slice_get}
use Rattle.std.specs.Option.{ok_or}
use Rattle.xtbml_subset.specs.Names.{bytes_eq, Rates, Selected, AnyTable}
use Rattle.select_rates.specs.declared.any.AnyTable.TheVariants as any
use Rattle.xtbml_subset.specs.declared.fault.TableKind.TheVariants.{NoTable, Select}
use Rattle.xtbml_subset.specs.declared.fault.TableFault.{TableFault}
use Rattle.xtbml_subset.specs.declared.fault.TableFault.TheVariants.{Bad}
use Rattle.xtbml_subset.specs.Checks.{RateElement, Asks, factor_of, InTurn, ReadsAll, ReadsRates, IsScale}
use Rattle.xtbml_subset.specs.SelectChecks.{Issue, issue_axes, issue_age_of, ReadsUltimate, IsJoinedBy}
use Rattle.xtbml_subset.specs.inside.Steps.{ultimate_of, ReadsIssue}

infixl 10 ◌>=>◌
abbrev pub ◌>=>◌ : {A B : Type 0} → Result A TableFault → (A → Result B TableFault) → Result B TableFault
(Ok x) >=> f = f x
(Err e) >=> f = Err e

-- ---- the path to the rates

-- the first child with a name; if there is none, the path ends at the parent
unfoldable pub within : {N : Type 0} → Asks N → List ℕ → N → Result N TableFault
within asks name parent = ok_or (slice_get (asks.children name parent) 0) (Bad (asks.row parent).at NoTable)

abbrev pub rooted : {N : Type 0} → Asks N → N → Result N TableFault
rooted asks root = if bytes_eq (asks.name root) (codes "XTbML") then Ok root else Err (Bad (asks.row root).at NoTable)

-- the first `Table` of the root, and the first `Axis` of its first `Values`
unfoldable pub path : {N : Type 0} → Asks N → N → Result (N × N) TableFault
path asks root =
    rooted asks root >=> (λ top. within asks (codes "Table") top)
    >=> λ table. within asks (codes "Values") table >=> (λ values. within asks (codes "Axis") values) >=> λ axis. Ok (table, axis)

-- ---- a table by age alone

-- a fault if an axis has no rates of its own: an axis in it makes a select table
abbrev pub rates_in : {N : Type 0} → Asks N → N → List N → List N → Result (List N) TableFault
rates_in asks axis (inner ∷ more) rates = Err (Bad (asks.row inner).at Select)
rates_in asks axis [] [] = Err (Bad (asks.row axis).at NoTable)
rates_in asks axis [] (rate ∷ rates) = Ok (rate ∷ rates)

unfoldable pub rates_of : {N : Type 0} → Asks N → N → Result (List N) TableFault
rates_of asks axis = rates_in asks axis (asks.children (codes "Axis") axis) (asks.children (codes "Y") axis)

-- the factor and the rates
pub record Parts : Type 0 where
  pub factor : Option RateElement
  pub rows : List RateElement

abbrev pub aggregate_parts : {N : Type 0} → Asks N → N × N → Result Parts TableFault
aggregate_parts asks found =
    rates_of asks found.1 >=> λ rates.
    Ok (record { factor = factor_of asks (found.0 ∷ []); rows = map (λ node. asks.row node) rates })

abbrev pub parts_of : {N : Type 0} → Asks N → N → Result Parts TableFault
parts_of asks root = path asks root >=> λ found. aggregate_parts asks found

-- the result by the parts, or the fault if a part is missing
abbrev pub IsTableBy : Result Parts TableFault → Result Rates TableFault → Type 0
IsTableBy (Err fault) answer = answer ≡ Err fault
IsTableBy (Ok parts) answer = InTurn (IsScale parts.factor) (λ none read. ReadsRates parts.rows read) answer

-- ---- a select table

-- the place of the first table, the factors of the first and of the second, the issue ages and the ultimate rates
pub record SelectParts : Type 0 where
  pub at : ℕ
  pub factor : Option RateElement
  pub ultimate_factor : Option RateElement
  pub issues : List Issue
  pub ultimate : List RateElement

-- by the tables after the first one, that one and its first axis
abbrev pub select_parts : {N : Type 0} → Asks N → List N → N → N → SelectParts
select_parts asks others table axis = record {
  at = (asks.row table).at;
  factor = factor_of asks (table ∷ []);
  ultimate_factor = factor_of asks others;
  issues = map (λ node. issue_age_of asks node) (issue_axes asks table axis);
  ultimate = map (λ node. asks.row node) (ultimate_of asks others);
}

-- the result by the parts
abbrev pub IsSelectBy : SelectParts → Result Selected TableFault → Type 0
IsSelectBy parts answer =
    InTurn (IsScale parts.factor) (λ none unscaled. InTurn (IsScale parts.ultimate_factor)
    (λ same read. InTurn (ReadsAll ReadsIssue None parts.issues)
    (λ rows joined. InTurn (ReadsUltimate parts.at parts.ultimate) (λ ultimate whole. IsJoinedBy parts.issues rows ultimate whole) joined) read) unscaled) answer

-- ---- a table of either kind

pub data AnyParts : Type 0 where
  aggregate : Parts → AnyParts
  selected : SelectParts → AnyParts

abbrev pub parts_by_axes : {N : Type 0} → Asks N → N → N × N → List N → Result AnyParts TableFault
parts_by_axes asks root found [] = aggregate_parts asks found >=> λ parts. Ok (aggregate parts)
parts_by_axes asks root found (inner ∷ more) = Ok (selected (select_parts asks (drop 1 (asks.children (codes "Table") root)) found.0 found.1))

abbrev pub any_parts_of : {N : Type 0} → Asks N → N → Result AnyParts TableFault
any_parts_of asks root = path asks root >=> λ found. parts_by_axes asks root found (asks.children (codes "Axis") found.1)

-- the result by the parts, or the fault if a part is missing
abbrev pub IsAnyBy : Result AnyParts TableFault → Result AnyTable TableFault → Type 0
IsAnyBy (Err fault) answer = answer ≡ Err fault
IsAnyBy (Ok (aggregate parts)) answer = InTurn (λ one. IsTableBy (Ok parts) one) (λ one whole. whole ≡ Ok (any.Aggregate one)) answer
IsAnyBy (Ok (selected parts)) answer = InTurn (λ one. IsSelectBy parts one) (λ one whole. whole ≡ Ok (any.Select one)) answer

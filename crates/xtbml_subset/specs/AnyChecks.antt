-- The checks of a table of either kind: an axis in the first axis makes it select.
use Rattle.std.specs.Prelude.{◌≡◌, ◌⊎◌, ℕ, List, drop, Result, Ok, Err, codes, slice_get, MatchOption}
use Rattle.xtbml_subset.specs.Names.{Rates, AnyTable, Aggregate, Select}
use Rattle.xtbml_subset.specs.declared.fault.TableKind.TheVariants as kind
use Rattle.xtbml_subset.specs.declared.fault.TableFault.{TableFault}
use Rattle.xtbml_subset.specs.declared.fault.TableFault.TheVariants.{Bad, NoMemory}
use Rattle.xtbml_subset.specs.Documents.{Node, IsDocument, node_asks}
use Rattle.xtbml_subset.specs.Checks.{Asks, InTurn, OnPath, IsAggregateTable}
use Rattle.xtbml_subset.specs.SelectChecks.{IsSelectTable}
use Rattle.xtbml_subset.specs.Answers.{IsLongestNested}

-- the result for a root
abbrev pub IsAnyTable : {N : Type 0} → Asks N → N → Result AnyTable TableFault → Type 0
IsAnyTable asks root answer =
    OnPath asks root
    (λ table axis. MatchOption (slice_get (asks.children (codes "Axis") axis) 0)
    (InTurn (IsAggregateTable asks table axis) (λ one whole. whole ≡ Ok (Aggregate one)) answer)
    (λ inner. InTurn (IsSelectTable asks (drop 1 (asks.children (codes "Table") root)) table axis)
    (λ one whole. whole ≡ Ok (Select one)) answer)) answer

-- The result is that of the checks of a document, or that the bytes are none.
abbrev pub IsAnyAnswer : List ℕ → Result AnyTable TableFault → Type 0
IsAnyAnswer bytes answer =
    ((root : Node) × IsDocument bytes root × IsAnyTable node_asks root answer)
    ⊎ (((root : Node) → IsDocument bytes root → ⊥) × ((at : ℕ) × IsLongestNested bytes at × (answer ≡ Err (Bad at kind.NotDocument))))

-- the file spells the table
abbrev pub SpellsAny : List ℕ → AnyTable → Type 0
SpellsAny bytes table = IsAnyAnswer bytes (Ok table)

-- a call returns this, or that memory was refused
abbrev pub GivesAny : Result AnyTable TableFault → Result AnyTable TableFault → Type 0
GivesAny (Ok table) answer = answer ≡ Ok table
GivesAny (Err (Bad at kind)) answer = answer ≡ Err (Bad at kind)
GivesAny (Err (NoMemory lack)) answer = Unit {0}

-- the result that the rates depend on the duration too
abbrev pub SaysSelect : Result Rates TableFault → Type 0
SaysSelect answer = (at : ℕ) × (answer ≡ Err (Bad at kind.Select))

-- a table by age alone, as a table of either kind
abbrev pub aggregated : Result Rates TableFault → Result AnyTable TableFault
aggregated (Ok table) = Ok (Aggregate table)
aggregated (Err fault) = Err fault

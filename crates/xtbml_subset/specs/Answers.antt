-- The result that is due for a file.
use Rattle.std.specs.Prelude.{◌≡◌, ℕ, ◌≤◌, ◌⊎◌, List, length, take, Result, Ok, Err}
use Rattle.rate_table.specs.Rates.{Rates}
use Rattle.xtbml_subset.specs.declared.fault.TableKind.TheVariants.{NotDocument}
use Rattle.xtbml_subset.specs.declared.fault.TableFault.{TableFault}
use Rattle.xtbml_subset.specs.declared.fault.TableFault.TheVariants.{Bad, NoMemory}
use Rattle.xtbml_subset.specs.Nesting.{IsNested}
use Rattle.xtbml_subset.specs.Documents.{Node, IsDocument, node_asks}
use Rattle.xtbml_subset.specs.Checks.{IsTable}

-- the longest prefix of the bytes that is a sequence of pieces that nests has this length
pub record IsLongestNested (bytes : List ℕ) (at : ℕ) : Type 0 where
  pub within : at ≤ length bytes
  pub nested : IsNested (take at bytes)
  pub longest : (n : ℕ) → n ≤ length bytes → IsNested (take n bytes) → n ≤ at

-- The bytes are a document, and the checks give this result.
abbrev pub IsJudged : List ℕ → Result Rates TableFault → Type 0
IsJudged bytes answer = (root : Node) × IsDocument bytes root × IsTable node_asks root answer

-- the file spells the table
abbrev pub SpellsTable : List ℕ → Rates → Type 0
SpellsTable bytes table = IsJudged bytes (Ok table)

abbrev pub IsNoDocument : List ℕ → Type 0
IsNoDocument bytes = (root : Node) → IsDocument bytes root → ⊥

-- The result is that of the checks, or that the file is no document.
abbrev pub IsTableAnswer : List ℕ → Result Rates TableFault → Type 0
IsTableAnswer bytes answer =
    IsJudged bytes answer
    ⊎ (IsNoDocument bytes × ((at : ℕ) × IsLongestNested bytes at × (answer ≡ Err (Bad at NotDocument))))

-- a call returns this, or that memory was refused
abbrev pub Gives : Result Rates TableFault → Result Rates TableFault → Type 0
Gives (Ok table) answer = answer ≡ Ok table
Gives (Err (Bad at kind)) answer = answer ≡ Err (Bad at kind)
Gives (Err (NoMemory lack)) answer = Unit {0}

-- a fault that isn't a refusal of memory satisfies this
abbrev pub Unless : TableFault → Type 0 → Type 0
Unless (NoMemory lack) P = Unit {0}
Unless (Bad at kind) P = P

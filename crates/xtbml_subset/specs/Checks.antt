-- The checks of a table, in order, over the elements of a document.
use Rattle.std.specs.Prelude.{◌≡◌, ℕ, ◌+◌, ◌-◌, ◌*◌, true, if◌then◌else◌, ◌==◌, nat_le, List, [], ◌∷◌, map, Option, None, Some, Result, Ok, Err, codes, slice_get, MatchBool, MatchOption, MatchResult, ◌⊎◌}
use Rattle.std.specs.Option.{option_map, option_map_or, ok_or}
use Rattle.xtbml_subset.specs.Names.{unwrap_or, bytes_eq, Rates}
use Rattle.decimal_text.specs.Rate.{IsRate}
use Rattle.xtbml_subset.specs.declared.class.Class.TheVariants.{White}
use Rattle.xtbml_subset.specs.declared.fault.TableKind.TheVariants.{NoTable, Select, Scaled, BadAge, AgeGap, BadRate}
use Rattle.xtbml_subset.specs.declared.fault.TableFault.{TableFault}
use Rattle.xtbml_subset.specs.declared.fault.TableFault.TheVariants.{Bad}
use Rattle.xtbml_subset.specs.Classes.{InClass, is_between}
use Rattle.xtbml_subset.specs.Texts.{◌>>=◌, trimmed}

-- what a rate or a factor is read from: the place of its `<`, the first attribute `t`, and the content if it is text
-- alone
pub record RateElement : Type 0 where
  pub at : ℕ
  pub label : Option (List ℕ)
  pub text : Option (List ℕ)

-- the parts of an element that the checks use
pub record Asks (N : Type 0) : Type 0 where
  pub name : N → List ℕ
  pub row : N → RateElement
  pub children : List ℕ → N → List N

-- the children of a name of the first of some elements
abbrev pub in_first : {N : Type 0} → Asks N → List ℕ → List N → List N
in_first asks name [] = []
in_first asks name (node ∷ nodes) = asks.children name node

-- the first `ScalingFactor` of the first `MetaData` of the first of some tables
unfoldable pub factor_of : {N : Type 0} → Asks N → List N → Option RateElement
factor_of asks tables =
    option_map (λ node. asks.row node)
    (slice_get (in_first asks (codes "ScalingFactor") (in_first asks (codes "MetaData") tables)) 0)

-- ---- one check after the other

-- what is read first, and, if that has no fault, what is read after it
abbrev pub InTurn : {A B : Type 0} → (Result A TableFault → Type 0) → (A → Result B TableFault → Type 0)
    → Result B TableFault → Type 0
InTurn {A} First Rest read =
    (one : Result A TableFault) × First one × MatchResult one (λ value. Rest value read) (λ fault. read ≡ Err fault)

-- The items are read in order, each by what is due after those before it; the first that is refused gives the reason.
abbrev pub ReadsAll : {S A B : Type 0} → (S → A → Result (S × B) TableFault → Type 0) → S → List A
    → Result (List B) TableFault → Type 0
ReadsAll One due [] read = read ≡ Ok []
ReadsAll One due (item ∷ items) read =
    InTurn (One due item)
    (λ one all. InTurn (λ rest. ReadsAll One one.0 items rest) (λ values whole. whole ≡ Ok (one.1 ∷ values)) all) read

-- ---- a row

-- a number with one more digit
abbrev pub digit_then : ℕ → ℕ → Option ℕ
digit_then number b = if is_between 48 57 b then Some (number * 10 + (b - 48)) else None

-- a whole number of one to three digits
abbrev pub short_number : List ℕ → Option ℕ
short_number [] = None
short_number (a ∷ []) = digit_then 0 a
short_number (a ∷ b ∷ []) = digit_then 0 a >>= λ n. digit_then n b
short_number (a ∷ b ∷ c ∷ []) = digit_then 0 a >>= (λ n. digit_then n b) >>= λ n. digit_then n c
short_number (a ∷ b ∷ c ∷ d ∷ more) = None

-- an age is such a number up to 130
unfoldable pub age_of : Option (List ℕ) → Option ℕ
age_of label = label >>= (λ text. short_number text) >>= λ age. if nat_le age 130 then Some age else None

-- the age of the first of some items, by its label; 0 if there is none
abbrev pub age_of_first : {A : Type 0} → List A → (A → Option (List ℕ)) → ℕ
age_of_first [] label = 0
age_of_first (item ∷ items) label = unwrap_or (age_of (label item)) 0

-- The rest is read with the age of a label, unless the label has no age or another age is due. The age that is due is
-- the age before plus one; at first none is due.
abbrev pub ReadsAge : {A : Type 0} → ℕ → Option (List ℕ) → Option ℕ → (ℕ → Result A TableFault → Type 0)
    → Result A TableFault → Type 0
ReadsAge at label due Rest read =
    MatchOption (age_of label) (read ≡ Err (Bad at BadAge))
    (λ age. MatchBool (option_map_or (λ next. age == next) due true) (Rest age read) (read ≡ Err (Bad at AgeGap)))

-- the content, without white space at both ends, is this rate, or no rate
abbrev pub ReadsRate : Option (List ℕ) → Option ℕ → Type 0
ReadsRate None rate = rate ≡ None
ReadsRate (Some text) None = (rate : ℕ) → IsRate (trimmed text) rate → ⊥
ReadsRate (Some text) (Some rate) = IsRate (trimmed text) rate

-- a row is read as its rate, with what is due after it, or is refused for its rate
abbrev pub ReadsRated : {S : Type 0} → RateElement → S → Result (S × ℕ) TableFault → Type 0
ReadsRated row next read =
    (rate : Option ℕ) × ReadsRate row.text rate
    × (read ≡ ok_or (option_map (λ value. (next, value)) rate) (Bad row.at BadRate))

-- Rows are read as rates from the age of the first row on. Each is read as its rate, after which the next age is due,
-- or is refused for its age or for its rate.
abbrev pub ReadsRates : List RateElement → Result Rates TableFault → Type 0
ReadsRates rows answer =
    InTurn (ReadsAll (λ due (row : RateElement) one. ReadsAge row.at row.label due
    (λ age rate. ReadsRated row (Some (age + 1)) rate) one) None rows)
    (λ rates made. made ≡ Ok (record { first_age = age_of_first rows (λ row. row.label); rates = rates })) answer

-- ---- the factor

-- a content that means that the rates are unscaled: only white space, 0 or 1
abbrev pub IsUnscaled : Option (List ℕ) → Type 0
IsUnscaled None = ⊥
IsUnscaled (Some text) = InClass White text ⊎ (IsRate (trimmed text) 0 ⊎ IsRate (trimmed text) 1000000000)

-- the rates are left as they are, by no factor or by such a factor
abbrev pub IsScale : Option RateElement → Result (Unit {0}) TableFault → Type 0
IsScale None read = read ≡ Ok tt
IsScale (Some row) (Ok none) = IsUnscaled row.text
IsScale (Some row) (Err fault) = (IsUnscaled row.text → ⊥) × (fault ≡ Bad row.at Scaled)

-- ---- the table

-- the first child with a name of an element that was found; if there is none, the path ends at that element
abbrev pub first_child : {N : Type 0} → Asks N → List ℕ → Result N TableFault → Result N TableFault
first_child asks name (Ok parent) = ok_or (slice_get (asks.children name parent) 0) (Bad (asks.row parent).at NoTable)
first_child asks name (Err fault) = Err fault

-- This is true of the first table under a root of the right name and the first axis of its first values; or the
-- result is the element at which the path to them ends.
abbrev pub OnPath : {N A : Type 0} → Asks N → N → (N → N → Type 0) → Result A TableFault → Type 0
OnPath asks root Holds answer =
    MatchResult
    (first_child asks (codes "Table")
    (if bytes_eq (asks.name root) (codes "XTbML") then Ok root else Err (Bad (asks.row root).at NoTable)))
    (λ table. MatchResult (first_child asks (codes "Axis") (first_child asks (codes "Values") (Ok table)))
    (λ axis. Holds table axis) (λ fault. answer ≡ Err fault))
    (λ fault. answer ≡ Err fault)

-- the result for a table by age alone: its rates are the `Y` of its axis, of which there is at least one
abbrev pub IsAggregateTable : {N : Type 0} → Asks N → N → N → Result Rates TableFault → Type 0
IsAggregateTable asks table axis answer =
    MatchOption (slice_get (asks.children (codes "Y") axis) 0) (answer ≡ Err (Bad (asks.row axis).at NoTable))
    (λ first. InTurn (IsScale (factor_of asks (table ∷ [])))
    (λ none read. ReadsRates (map (λ node. asks.row node) (asks.children (codes "Y") axis)) read) answer)

-- the result if a table by age alone is asked for: an axis in its axis makes it a select table
abbrev pub IsTable : {N : Type 0} → Asks N → N → Result Rates TableFault → Type 0
IsTable asks root answer =
    OnPath asks root
    (λ table axis. MatchOption (slice_get (asks.children (codes "Axis") axis) 0)
    (IsAggregateTable asks table axis answer)
    (λ inner. answer ≡ Err (Bad (asks.row inner).at Select))) answer

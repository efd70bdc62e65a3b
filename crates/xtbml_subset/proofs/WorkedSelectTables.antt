-- What worked select tables are computed from.
use Rattle.xtbml_subset.proofs.Names.{◌≡◌, ℕ, List, [], ◌∷◌, length, None, Result, refl, ⊤, AnyTable, TableFault, any_parts_of, IsAnyBy, IsAnyAnswer, inl, issue_axes, durations_of, ultimate_of, Found, elements_at, found_asks, fault_at}
use Rattle.xtbml_subset.proofs.AnyFinal.{any_judged_by}
use Rattle.xtbml_subset.proofs.WorkedTables.{tables_on_literals}

unfoldable pub select_on_literals : ⊤
unfolding tables_on_literals issue_axes durations_of ultimate_of
select_on_literals = tt

-- what the first element of a document, its root, is judged to be
abbrev pub RootIsAny : ℕ → Result AnyTable TableFault → List Found → Type 0
RootIsAny total answer [] = ⊥
RootIsAny total answer (f ∷ others) = IsAnyBy (any_parts_of (found_asks total) f) answer

-- a document is judged by its elements
pub any_judged : (bytes : List ℕ) (answer : Result AnyTable TableFault) → None ≡ fault_at bytes → RootIsAny (length bytes) answer (elements_at 0 None bytes)
    → IsAnyAnswer bytes answer
any_judged bytes answer e is = by (elements_at 0 None bytes) refl is
  where
    by : (found : List Found) → elements_at 0 None bytes ≡ found → RootIsAny (length bytes) answer found → IsAnyAnswer bytes answer
    by (f ∷ others) same is = inl (any_judged_by bytes f others answer e same is)
    by [] same is = absurd is

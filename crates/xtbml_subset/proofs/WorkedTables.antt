-- What worked tables are computed from.
use Rattle.xtbml_subset.proofs.Names.{◌≡◌, ℕ, List, [], ◌∷◌, length, None, Result, refl, inl, inr, codes, lit≤, lit<, ⊤, IsRate, Rates, TableFault, IsJudged, parts_of, within, path, rates_of, factor_of, age_of, IsTableBy, trimmed, Found, elements_at, elements_from, text_at, piece_at, marked_at, tag_at, name_at, attributes_from, attribute_at, spaces_at, quoted_at, closed_at, end_tag_at, comment_at, declaration_at, found_asks, fault_at, walk_from}
use Rattle.decimal_text.proofs.Spelt.{spelt}
use Rattle.xtbml_subset.proofs.Final.{judged_by}

unfoldable pub tables_on_literals : ⊤
unfolding text_at fault_at walk_from piece_at marked_at tag_at name_at attributes_from attribute_at spaces_at quoted_at closed_at end_tag_at comment_at declaration_at elements_from within path rates_of factor_of age_of trimmed
tables_on_literals = tt

-- what the first element of a document, its root, is judged to be
abbrev pub RootIs : ℕ → Result Rates TableFault → List Found → Type 0
RootIs total answer [] = ⊥
RootIs total answer (f ∷ others) = IsTableBy (parts_of (found_asks total) f) answer

-- a document is judged by its elements
pub judged : (bytes : List ℕ) (answer : Result Rates TableFault) → None ≡ fault_at bytes → RootIs (length bytes) answer (elements_at 0 None bytes)
    → IsJudged bytes answer
judged bytes answer e is = by (elements_at 0 None bytes) refl is
  where
    by : (found : List Found) → elements_at 0 None bytes ≡ found → RootIs (length bytes) answer found → IsJudged bytes answer
    by (f ∷ others) same is = judged_by bytes f others answer e same is
    by [] same is = absurd is

-- rates, by their digits
pub a_tenth : IsRate (codes "0.1") 100000000
a_tenth = (
  record { whole = codes "0"; fraction = codes "1"; raised = 0; lowered = 0 },
  spelt (codes "0.1") (codes "0") (codes "1") (inr refl) (lit< tt, tt) (lit< tt, tt) (lit≤ tt),
  refl,
  lit≤ tt,
)

pub a_half : IsRate (codes ".5") 500000000
a_half = (
  record { whole = []; fraction = codes "5"; raised = 0; lowered = 0 },
  spelt (codes ".5") [] (codes "5") (inr refl) tt (lit< tt, tt) (lit≤ tt),
  refl,
  lit≤ tt,
)

pub one : IsRate (codes "1") 1000000000
one = (
  record { whole = codes "1"; fraction = []; raised = 0; lowered = 0 },
  spelt (codes "1") (codes "1") [] (inl (refl, refl)) (lit< tt, tt) tt (lit≤ tt),
  refl,
  lit≤ tt,
)

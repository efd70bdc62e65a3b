-- The issue ages of the axes that a reader finds, in a file of so many bytes.
use Rattle.std.specs.Prelude.{ℕ, List, ◌∷◌, map, codes}
use Rattle.xtbml_subset.specs.inside.Elements.{Found, siblings_at}
use Rattle.xtbml_subset.specs.inside.Rows.{found_asks}
use Rattle.xtbml_subset.specs.SelectChecks.{Issue, issue_age_of}

-- the issue age of an axis and those of the axes after it
abbrev pub issues_from : ℕ → Found → List Issue
issues_from total element =
    issue_age_of (found_asks total) element ∷ map (λ e. issue_age_of (found_asks total) e) (siblings_at (codes "Axis") element)

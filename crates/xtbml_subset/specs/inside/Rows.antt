-- The rows of the elements that a reader finds, in a file of so many bytes.
use Rattle.std.specs.Prelude.{ℕ, ◌-◌, List, ◌∷◌, length, map, codes}
use Rattle.xtbml_subset.specs.inside.Elements.{Found, children_at, siblings_at, text_at}
use Rattle.xtbml_subset.specs.Texts.{value_of}
use Rattle.xtbml_subset.specs.Checks.{RateElement, Asks}

abbrev pub row_of : ℕ → Found → RateElement
row_of total element = record {
  at = total - length element.from;
  label = value_of (codes "t") element.tag.attributes;
  text = text_at element;
}

abbrev pub found_asks : ℕ → Asks Found
found_asks total = record {
  name = λ element. element.tag.name;
  row = λ element. row_of total element;
  children = λ name element. children_at name element;
}

-- the row of an element and those of the rates after it
abbrev pub rows_from : ℕ → Found → List RateElement
rows_from total element = row_of total element ∷ map (λ e. row_of total e) (siblings_at (codes "Y") element)

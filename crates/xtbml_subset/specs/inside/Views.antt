use Rattle.std.specs.Prelude.{ℕ, suc, length, Option, None, Some, Result, Ok, Err}
use Rattle.xtbml_subset.specs.declared.fault.TableFault.{TableFault}
use Rattle.xtbml_subset.specs.declared.found.Element.{Element}
use Rattle.xtbml_subset.specs.declared.finder.Seen.{Seen}
use Rattle.xtbml_subset.specs.declared.finder.Seen.TheVariants as seen
use Rattle.xtbml_subset.specs.declared.search.Search.{Search}
use Rattle.xtbml_subset.specs.declared.search.Search.TheVariants as search
use Rattle.xtbml_subset.specs.declared.passing.Passing.{Passing as APassing}
use Rattle.xtbml_subset.specs.declared.path.ElementPath.{ElementPath as APath}
use Rattle.xtbml_subset.specs.inside.Tokens.{piece_of, tag_of}
use Rattle.xtbml_subset.specs.inside.Searches.{Sought, seeking, hit, missed, Passing, ElementPath}
use Rattle.xtbml_subset.specs.inside.Elements.{Found, Step, on, found, closed}

abbrev pub found_of : Element → Found
found_of element = record { from = element.from.now; tag = tag_of element.tag; is_open = element.is_open; rest = element.rest.now }

abbrev pub step_seen : Seen → Step
step_seen (seen.On depth) = on depth
step_seen (seen.Wanted tag is_open) = found (tag_of tag) is_open
step_seen seen.Closed = closed

abbrev pub sought_of : Search → Sought
sought_of search.Seeking = seeking
sought_of (search.Hit element) = hit (found_of element)
sought_of search.Missed = missed

abbrev pub passing_of : APassing → Passing
passing_of passing = record { piece = piece_of passing.token; depth = passing.depth; from = passing.from.now; rest = passing.after.now }

abbrev pub path_of : APath → ElementPath
path_of path = record {
  root = sought_of path.root;
  table = sought_of path.table;
  about = sought_of path.about;
  values = sought_of path.values;
  axis = sought_of path.axis;
  inner = sought_of path.inner;
  first = sought_of path.first;
  tally = path.tally;
}

abbrev pub found_result : Result Element TableFault → Result Found TableFault
found_result (Ok element) = Ok (found_of element)
found_result (Err fault) = Err fault

abbrev pub found_pair : Result (Element × Element) TableFault → Result (Found × Found) TableFault
found_pair (Ok pair) = Ok (found_of pair.0, found_of pair.1)
found_pair (Err fault) = Err fault

-- how far the elements after it may go on
abbrev pub bytes_left : Option Element → ℕ
bytes_left None = 0
bytes_left (Some element) = suc (length element.rest.now)

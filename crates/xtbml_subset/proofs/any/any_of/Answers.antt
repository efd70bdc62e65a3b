use Rattle.xtbml_subset.proofs.Names.{Err, ap, codes, err_from_is_err_and, select_parts, IsSelectBy, any_parts_of, IsAnyBy, siblings_at, found_asks, found_of, sought_of, path_of}
use Rattle.xtbml_subset.proofs.Final.{unless_goes}
use Rattle.xtbml_subset.proofs.AnyParts.{any_selected, axes_of_axis, tables_of_root}
use Rattle.xtbml_subset.proofs.any.any_of.Goals as goal

pub returns-in_err-select-clause-fault : goal.returns-in_err-select-clause-fault
returns-in_err-select-clause-fault c =
    let p = err_from_is_err_and c.from_residual-in_err-select.result c.from_residual-in_err-select.ensures.1 in
    let total = c.args.total in
    let root = found_of c.args.root.now in
    let table = found_of c.in_ok-table.table in
    let axis = found_of c.in_ok-table.axis in
    let inner = found_of c.in-Hit.inner in
    let found = path_of c.args.found.now in
    let others = siblings_at (codes "Table") table in
    let fault = c.in_err-select.field-0.0 in
    let axes = axes_of_axis root axis inner found c.requires c.in_ok-table.ensures.axis (ap sought_of c.in-Hit.is) in
    let tables = tables_of_root root table found c.requires c.in_ok-table.ensures.table in
    rw (p.1, p.2) (unless_goes fault (IsSelectBy (select_parts (found_asks total) others table axis) (Err fault)) (IsAnyBy (any_parts_of (found_asks total) root) (Err fault))
    (λ is. any_selected total root table axis inner (siblings_at (codes "Axis") inner) others (Err fault) c.in_ok-table.ensures.pair axes tables is)
    c.in_err-select.ensures.fault)

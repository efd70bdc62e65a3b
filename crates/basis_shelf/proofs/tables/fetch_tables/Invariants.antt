use Rattle.basis_shelf.proofs.Names.{◌≡◌, ◌≤◌, All, Contains, IsSome, map, take, get_by_text, ARow, AreTables, AsksOnly}
use Rattle.outside_io.specs.Shelves.{Files}
use Rattle.basis_shelf.proofs.tables.fetch_tables.Given as goal

abbrev pub invariant-loop-index : goal.invariant-loop-index
invariant-loop-index g l = record {
  known : All (λ (row : ARow). IsSome (get_by_text l.tables row.table)) (take l.index l.rows);
  right : (at : Files) → g.H.Shelf.agrees l.shelf at → AreTables at (get_by_text l.tables);
  agreed : (at : Files) → g.H.Shelf.agrees l.shelf at → g.H.Shelf.agrees l.fn.shelf at;
  counted : g.H.Shelf.faults l.shelf ≤ g.H.Shelf.faults l.fn.shelf;
  later : g.H.Shelf.faults l.fn.shelf ≤ g.H.Shelf.faults l.shelf;
  asked : AsksOnly (Contains (map (λ (row : ARow). row.table) l.rows)) (g.H.Shelf.asked l.fn.shelf) (g.H.Shelf.asked l.shelf);
  stays : g.H.Shelf.files l.shelf ≡ g.H.Shelf.files l.fn.shelf;
}

use Rattle.basis_shelf.proofs.Names.{◌≡◌, refl, string_bytes, ◌∙◌, bytes_eq, get_by_text}
use Rattle.std.proofs.lemmas.Slice.Eq.{bytes_eq-Decides}
use Rattle.std.proofs.lemmas.Map.Text.{hash_map_updates_text}
use Rattle.basis_shelf.proofs.Asking.{asks_one}
use Rattle.basis_shelf.proofs.Fetched.{known_still, tables_still}
use Rattle.basis_shelf.proofs.tables.add_table.Goals as goal

pub returns-clause-kept : goal.returns-clause-kept
returns-clause-kept g c = λ name some.
    let is = hash_map_updates_text (string_bytes c.in-Ok.key) c.args.tables.now c.insert.new.map _ c.in-Ok-insert.ensures.updates in
    rw (is name) (known_still c.in_ok-table.table (get_by_text c.args.tables.now name) (bytes_eq (string_bytes c.in-Ok.key) name) some)

pub returns-clause-right : goal.returns-clause-right
returns-clause-right g c = λ files agrees.
    let key : string_bytes c.in-Ok.key ≡ c.args.name.now = c.in-Ok.ensures.ok ∙ c.text-2.ensures.text in
    let is = hash_map_updates_text (string_bytes c.in-Ok.key) c.args.tables.now c.insert.new.map _ c.in-Ok-insert.ensures.updates in
    tables_still files c.in_ok-table.table (string_bytes c.in-Ok.key) (get_by_text c.args.tables.now) (get_by_text c.insert.new.map) bytes_eq bytes_eq-Decides is
    (rw key (c.in_ok-table.ensures.table files agrees))

pub returns-in_err-table-clause-asked : goal.returns-in_err-table-clause-asked
returns-in_err-table-clause-asked g c = asks_one (λ asked. asked ≡ c.args.name.now) c.args.name.now (g.H.Shelf.asked c.args.shelf.now) (g.H.Shelf.asked c.fetch_table.new.shelf) refl c.fetch_table.ensures.asked

pub returns-in-Err-clause-asked : goal.returns-in-Err-clause-asked
returns-in-Err-clause-asked g c = asks_one (λ asked. asked ≡ c.args.name.now) c.args.name.now (g.H.Shelf.asked c.args.shelf.now) (g.H.Shelf.asked c.fetch_table.new.shelf) refl c.fetch_table.ensures.asked

pub returns-in-Err-insert-clause-asked : goal.returns-in-Err-insert-clause-asked
returns-in-Err-insert-clause-asked g c = asks_one (λ asked. asked ≡ c.args.name.now) c.args.name.now (g.H.Shelf.asked c.args.shelf.now) (g.H.Shelf.asked c.fetch_table.new.shelf) refl c.fetch_table.ensures.asked

pub returns-clause-asked : goal.returns-clause-asked
returns-clause-asked g c = asks_one (λ asked. asked ≡ c.args.name.now) c.args.name.now (g.H.Shelf.asked c.args.shelf.now) (g.H.Shelf.asked c.fetch_table.new.shelf) refl c.fetch_table.ensures.asked

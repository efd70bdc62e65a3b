use Rattle.xtbml_subset.proofs.Names.{length, Result, Ok, Err, inl, err_from_is_err_and, Rates, Gives, SpellsTable, IsTableAnswer, parts_of, IsTableBy, TableFault, found_asks, found_of}
use Rattle.xtbml_subset.proofs.Final.{fault_told, gives_fault, judged_by, due_by, if_ok, if_fault, gives}
use Rattle.xtbml_subset.proofs.reader.read_table.Goals as goal

pub returns-in_err-root : goal.returns-in_err-root
returns-in_err-root c =
    let p = err_from_is_err_and c.from_residual.result c.from_residual.ensures.1 in
    let bytes = c.args.bytes.now in
    let fault = c.in_err-root.field-0.0 in
    let no = c.in_err-root.ensures.fault in
    rw (p.1, p.2) (record {
      table = tt;
      read = λ table spelled. gives_fault bytes no.0 fault (Ok table) no.1 no.2 (inl spelled);
      fault = fault_told bytes no.0 fault no.1 no.2;
      due = λ answer due. gives_fault bytes no.0 fault answer no.1 no.2 due;
    })

pub table_of-requires : goal.table_of-requires
table_of-requires c = c.in_ok-root.ensures.path

pub returns : goal.returns
returns c =
    let bytes = c.args.bytes.now in
    let root = found_of c.in_ok-root.root in
    let h = c.in_ok-root.ensures in
    let parts = parts_of (found_asks (length bytes)) root in
    let due_is : (answer : Result Rates TableFault) → IsTableAnswer bytes answer → Gives c.table_of.result answer =
    λ answer due. gives c.table_of.result answer parts c.table_of.ensures.read c.table_of.ensures.fault (due_by bytes root _ answer h.document h.root due) in
    record {
      table = if_ok c.table_of.result (λ table. IsTableBy parts (Ok table)) (SpellsTable bytes)
          (λ table is. judged_by bytes root _ (Ok table) h.document h.root is) c.table_of.ensures.read;
      read = λ table spelled. due_is (Ok table) (inl spelled);
      fault = if_fault c.table_of.result (λ fault. IsTableBy parts (Err fault)) (λ fault. IsTableAnswer bytes (Err fault))
          (λ fault is. inl (judged_by bytes root _ (Err fault) h.document h.root is)) c.table_of.ensures.fault;
      due = due_is;
    }

use Rattle.xtbml_subset.proofs.Names.{length, Result, Ok, Err, inl, err_from_is_err_and, AnyTable, any_parts_of, aggregated, GivesAny, IsAnyBy, IsAnyAnswer, SpellsAny, TableFault, found_asks, found_of}
use Rattle.xtbml_subset.proofs.AnyFinal.{any_fault_told, any_gives_fault, any_judged_by, any_due_by, aggregate_answer, or_gives, any_if_ok, any_if_fault, any_gives}
use Rattle.xtbml_subset.proofs.reader.read_any.Goals as goal

pub returns-in_err-root : goal.returns-in_err-root
returns-in_err-root c =
    let p = err_from_is_err_and c.from_residual.result c.from_residual.ensures.1 in
    let bytes = c.args.bytes.now in
    let fault = c.in_err-root.field-0.0 in
    let no = c.in_err-root.ensures.fault in
    rw (p.1, p.2) (record {
      table = tt;
      read = λ table spelled. any_gives_fault bytes no.0 fault (Ok table) no.1 no.2 spelled;
      fault = any_fault_told bytes no.0 fault no.1 no.2;
      due = λ answer due. any_gives_fault bytes no.0 fault answer no.1 no.2 due;
      aggregate = λ answer due. or_gives answer _ _ (aggregate_answer bytes answer due) (any_gives_fault bytes no.0 fault (aggregated answer) no.1 no.2);
    })

pub any_of-requires : goal.any_of-requires
any_of-requires c = c.in_ok-root.ensures.path

pub returns : goal.returns
returns c =
    let bytes = c.args.bytes.now in
    let root = found_of c.in_ok-root.root in
    let h = c.in_ok-root.ensures in
    let parts = any_parts_of (found_asks (length bytes)) root in
    let due_is : (answer : Result AnyTable TableFault) → IsAnyAnswer bytes answer → GivesAny c.any_of.result answer =
    λ answer due. any_gives c.any_of.result answer parts c.any_of.ensures.read c.any_of.ensures.fault (any_due_by bytes root _ answer h.document h.root due) in
    record {
      table = any_if_ok c.any_of.result (λ table. IsAnyBy parts (Ok table)) (SpellsAny bytes)
          (λ table is. inl (any_judged_by bytes root _ (Ok table) h.document h.root is)) c.any_of.ensures.read;
      read = λ table spelled. due_is (Ok table) spelled;
      fault = any_if_fault c.any_of.result (λ fault. IsAnyBy parts (Err fault)) (λ fault. IsAnyAnswer bytes (Err fault))
          (λ fault is. inl (any_judged_by bytes root _ (Err fault) h.document h.root is)) c.any_of.ensures.fault;
      due = due_is;
      aggregate = λ answer due. or_gives answer _ _ (aggregate_answer bytes answer due) (due_is (aggregated answer));
    }

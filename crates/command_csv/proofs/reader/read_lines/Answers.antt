use Rattle.command_csv.proofs.Names.{sym, refl, true, false, [], arith, Reached, strip_bom}
use Rattle.csv.specs.Records.{fields_of}
use Rattle.command_csv.proofs.Progress.{found, row_counted, row_right, row_faulty, no_row, none_read, none_valued, few_valued}
use Rattle.command_csv.proofs.reader.read_lines.Goals as goal

pub loop-entries-init : goal.loop-entries-init
unfolding Reached
loop-entries-init c =
    let at = c.in_ok-rows.ensures.start in
    record {
      plain = at.plain;
      ready = at.ready;
      flexible = at.flexible;
      config = at.config;
      left = strip_bom c.args.bytes.now;
      source = at.source;
      behind = [];
      reached = (sym at.state, refl);
      number = refl;
      right = none_read c.new-entries.ensures.items;
      valued = none_valued c.new-entries.ensures.items;
    }

pub overflow_add-count : goal.overflow_add-count
overflow_add-count c =
    let inv = c.loop-entries.invariant in
    let r = found c.loop-entries.rows c.next_row.new.rows _ true (fields_of c.next_row.new.row) c.if-branch.true (c.in_ok-next_row.ensures.reads inv.plain) in
    omega (arith, row_counted c.args.bytes.now c.loop-entries.rows c.next_row.new.rows c.loop-entries.count c.loop-entries.valuations c.loop-entries.entries.items (fields_of c.next_row.new.row) inv r, c.requires)

pub overflow_add-valuations : goal.overflow_add-valuations
overflow_add-valuations c = omega (arith, few_valued c.args.bytes.now c.loop-entries.rows c.loop-entries.count c.loop-entries.valuations _ c.loop-entries.entries.items _ c.in-Ok.entry c.loop-entries.invariant c.in-Ok.ensures.ok c.valuations_of-valuations.ensures)

pub loop-entries-smaller : goal.loop-entries-smaller
loop-entries-smaller c =
    let inv = c.loop-entries.invariant in
    let r = found c.loop-entries.rows c.next_row.new.rows _ true (fields_of c.next_row.new.row) c.if-branch.true (c.in_ok-next_row.ensures.reads inv.plain) in
    omega (arith, row_counted c.args.bytes.now c.loop-entries.rows c.next_row.new.rows c.loop-entries.count c.loop-entries.valuations c.loop-entries.entries.items (fields_of c.next_row.new.row) inv r)

pub loop-entries-preserved : goal.loop-entries-preserved
loop-entries-preserved c =
    let inv = c.loop-entries.invariant in
    let r = found c.loop-entries.rows c.next_row.new.rows _ true (fields_of c.next_row.new.row) c.if-branch.true (c.in_ok-next_row.ensures.reads inv.plain) in
    row_right c.args.bytes.now c.loop-entries.rows c.next_row.new.rows c.loop-entries.count c.loop-entries.valuations _ c.loop-entries.entries.items c.push.new.items.items (fields_of c.next_row.new.row) c.in-Ok.entry inv r
    (c.in_ok-next_row.ensures.ready inv.plain) c.in_ok-next_row.ensures.flexible c.in-Ok.ensures.ok c.valuations_of-valuations.ensures c.in_ok-push-in-Ok.ensures.items

pub returns-in-Err-clause-fault : goal.returns-in-Err-clause-fault
returns-in-Err-clause-fault c =
    let inv = c.loop-entries.invariant in
    let r = found c.loop-entries.rows c.next_row.new.rows _ true (fields_of c.next_row.new.row) c.if-branch.true (c.in_ok-next_row.ensures.reads inv.plain) in
    row_faulty c.args.bytes.now c.loop-entries.rows c.next_row.new.rows c.loop-entries.count c.loop-entries.valuations c.in-Err.field c.loop-entries.entries.items (fields_of c.next_row.new.row) inv r c.in-Err.ensures.fault

pub returns-clause-ok : goal.returns-clause-ok
returns-clause-ok c =
    let inv = c.loop-entries.invariant in
    let r = found c.loop-entries.rows c.next_row.new.rows _ false (fields_of c.next_row.new.row) c.if-branch.false (c.in_ok-next_row.ensures.reads inv.plain) in
    no_row c.args.bytes.now c.loop-entries.rows c.next_row.new.rows c.loop-entries.count c.loop-entries.valuations c.loop-entries.entries.items (fields_of c.next_row.new.row) inv r

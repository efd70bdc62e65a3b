use Rattle.basis_book.proofs.Names.{◌==◌, ℕ, ◌∙◌, ◌++◌, sym, refl, inl, true, false, [], ◌∷◌, arith, Reached, strip_bom, fields_of, count_by-le-length}
use Rattle.basis_book.proofs.Leftover.{found, more_read, none_left}
use Rattle.basis_book.proofs.file.judge_rows.Goals as goal

pub row_with_room-requires : goal.row_with_room-requires
row_with_room-requires c = omega (arith, c.requires, c.most_fields.ensures, count_by-le-length (λ (byte : ℕ). byte == 44) c.args.bytes.now)

pub loop-reading-init : goal.loop-reading-init
unfolding Reached
loop-reading-init c =
    let at = c.in_ok-rows.ensures.start in
    (at.plain, at.ready, at.config, strip_bom c.args.bytes.now, at.source, [], (sym at.state, refl), c.new-reading.ensures, at.flexible)

pub loop-reading-smaller : goal.loop-reading-smaller
loop-reading-smaller c =
    let inv = c.loop-reading.invariant in
    let r = found c.loop-reading.rows c.next_row.new.rows _ true (fields_of c.next_row.new.row) c.if-branch.true (c.in_ok-next_row.ensures.reads inv.0) in
    (more_read c.args.bytes.now c.loop-reading.rows c.next_row.new.rows inv.3 inv.5 (fields_of c.next_row.new.row) inv.2 inv.4 inv.6 r).3

pub loop-reading-preserved : goal.loop-reading-preserved
loop-reading-preserved c =
    let inv = c.loop-reading.invariant in
    let fields = fields_of c.next_row.new.row in
    let r = found c.loop-reading.rows c.next_row.new.rows _ true fields c.if-branch.true (c.in_ok-next_row.ensures.reads inv.0) in
    let m = more_read c.args.bytes.now c.loop-reading.rows c.next_row.new.rows inv.3 inv.5 fields inv.2 inv.4 inv.6 r in
    (r.3 ∙ inv.0, inl (c.in_ok-next_row.ensures.ready inv.0), r.2 ∙ inv.2, m.0, m.1, inv.5 ++ fields ∷ [], m.2, c.in_ok-add.ensures inv.5 fields c.three_fields.ensures inv.7, c.in_ok-next_row.ensures.flexible)

pub returns : goal.returns
returns c =
    let inv = c.loop-reading.invariant in
    let r = found c.loop-reading.rows c.next_row.new.rows _ false (fields_of c.next_row.new.row) c.if-branch.false (c.in_ok-next_row.ensures.reads inv.0) in
    (inv.5, (c.loop-reading.rows.state, inv.3, inv.6, none_left c.loop-reading.rows c.next_row.new.rows inv.3 (fields_of c.next_row.new.row) inv.2 inv.4 r), inv.7)

use Rattle.versioned_book.proofs.Names.{◌+◌, ◌-◌, ◌*◌, ◌/◌, length, refl, sym, ap, arith, take_all, value_at}
use Rattle.versioned_book.proofs.VersionSteps.{doubled, halved, value_at-more, value_at-take}
use Rattle.versioned_book.proofs.halving.search.Goals as goal

pub loop-low-init : goal.loop-low-init
loop-low-init g c =
    let items = c.args.past.now.older.items in (
      omega arith,
      omega (arith, c.len-high.ensures),
      refl,
      ap (value_at c.args.p) (take_all c.len-high.result items (omega (arith, c.len-high.ensures))),
      (0, omega arith, omega (arith, c.len-high.ensures), omega arith),
    )

pub loop-low-preserved-then-position-p : goal.loop-low-preserved-then-position-p
loop-low-preserved-then-position-p g c =
    let at = c.look-position.ensures in
    let i = c.loop-low.invariant in
    let s = i.4 in
    let wide = c.loop-low-test.true in
    let middle = c.loop-low.low + (c.loop-low.high - c.loop-low.low) / 2 in
    let n = 2 * length c.args.past.now.older.items + 1 in
    let left = c.loop-low.high - (middle + 1) in (
      omega (arith, wide),
      i.1,
      sym (value_at-more c.args.p middle c.args.past.now.older.items c.look-position.result at.version c.if-position-p.true),
      i.3,
      (
        s.0 + 1,
        omega (arith, at.step, s.1),
        halved s.0 (c.loop-low.high - c.loop-low.low) left n s.2 (omega (arith, wide)),
        doubled s.0 (c.loop-low.high - c.loop-low.low) n s.2 (omega (arith, wide)),
      ),
    )

pub loop-low-preserved : goal.loop-low-preserved
loop-low-preserved g c =
    let at = c.look-position.ensures in
    let i = c.loop-low.invariant in
    let s = i.4 in
    let wide = c.loop-low-test.true in
    let middle = c.loop-low.low + (c.loop-low.high - c.loop-low.low) / 2 in
    let n = 2 * length c.args.past.now.older.items + 1 in (
      omega (arith, wide),
      omega (arith, wide, i.1),
      i.2,
      value_at-take c.args.p middle 0 c.args.past.now.older.items c.look-position.result at.version c.if-position-p.false c.requires,
      (
        s.0 + 1,
        omega (arith, at.step, s.1),
        halved s.0 (c.loop-low.high - c.loop-low.low) (middle - c.loop-low.low) n s.2 (omega (arith, wide)),
        doubled s.0 (c.loop-low.high - c.loop-low.low) n s.2 (omega (arith, wide)),
      ),
    )

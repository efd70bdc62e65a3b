use Rattle.std.proofs.Common.{◌+◌, ◌-◌, ◌/◌, arith}
use Rattle.versioned_book.proofs.Looking.{back_past, front_until, partition_count}
use Rattle.versioned_book.proofs.book.many_until.Goals as goal

pub returns : goal.returns
returns c =
    let i = c.loop-low.invariant in
    partition_count c.args.p c.args.positions.now c.loop-low.low (omega (arith, i.0, i.1)) i.2 (λ k a b. i.3 k (omega (arith, a, c.loop-low-test.false)) b)

pub loop-low-preserved-then-positions-middle : goal.loop-low-preserved-then-positions-middle
loop-low-preserved-then-positions-middle c =
    let i = c.loop-low.invariant in
    let wide = c.loop-low-test.true in
    let middle = c.loop-low.low + (c.loop-low.high - c.loop-low.low) / 2 in (
      omega (arith, wide),
      i.1,
      front_until c.args.p 0 c.args.positions.now c.requires.0 middle c.requires.1 (omega (arith, wide, i.1)) c.if-positions-middle.true,
      i.3,
    )

pub loop-low-preserved : goal.loop-low-preserved
loop-low-preserved c =
    let i = c.loop-low.invariant in
    let wide = c.loop-low-test.true in
    let middle = c.loop-low.low + (c.loop-low.high - c.loop-low.low) / 2 in (
      omega (arith, wide),
      omega (arith, wide, i.1),
      i.2,
      back_past c.args.p 0 c.args.positions.now c.requires.0 middle c.requires.1 c.if-positions-middle.false,
    )

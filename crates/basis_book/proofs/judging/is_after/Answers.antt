use Rattle.basis_book.proofs.Names.{◌<ℤ◌, ◌≤ℤ◌, w32, to_z, of_z, arith, ints}
use Rattle.std.specs.Int.Signed.{lt_z}
use Rattle.basis_book.proofs.Additions.{after_last, lt_true, lt_false}
use Rattle.basis_book.proofs.judging.is_after.Goals as goal

pub returns : goal.returns
returns c =
    let last = to_z w32 (of_z w32 c.in-Some.last.now.from_day) in
    let next = to_z w32 (of_z w32 c.args.next.now.from_day) in
    after_last c.args.rows.now c.in-Some.last.now c.args.next.now.from_day (lt_z last next) c.in-Some.ensures.value
    (λ e. let less : last <ℤ next = lt_true last next e in omega (arith, ints))
    (λ e. let least : next ≤ℤ last = lt_false last next e in omega (arith, ints))

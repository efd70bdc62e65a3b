use Rattle.std.proofs.Common.{◌≤◌, length, arith}
use Rattle.basis_book.proofs.Additions.{AreBounded-rows}
use Rattle.basis_book.proofs.reading.Reading.finish.Goals as goal

pub returns-in-None : goal.returns-in-None
returns-in-None c = λ rows h.
    let few : length rows ≤ 1000 = omega (arith, h.count) in
    let right = h.right few c.in-None.is in
    rw c.new.ensures (few, right, AreBounded-rows rows _ few right)

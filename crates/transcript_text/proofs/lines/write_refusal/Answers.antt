use Rattle.transcript_text.proofs.Names.{◌≡◌, arith, w32, to_z, of_z, IsTermDay}
use Rattle.std.proofs.lemmas.Int.{ints}
use Rattle.transcript_text.proofs.lines.write_refusal.Goals as goal

pub returns-in-BeforeLast : goal.returns-in-BeforeLast
returns-in-BeforeLast c =
    let printable : IsTermDay c.in-BeforeLast.day = rw c.in-BeforeLast.is at c.requires.printable in
    let day : to_z w32 (of_z w32 c.in-BeforeLast.day) ≡ c.in-BeforeLast.day = omega (arith, ints) in
    rw c.in-BeforeLast.is (rw day at c.write_day.ensures)

pub returns-in-NotMatured : goal.returns-in-NotMatured
returns-in-NotMatured c =
    let printable : IsTermDay c.in-NotMatured.day = rw c.in-NotMatured.is at c.requires.printable in
    let day : to_z w32 (of_z w32 c.in-NotMatured.day) ≡ c.in-NotMatured.day = omega (arith, ints) in
    rw c.in-NotMatured.is (rw day at c.write_day-in-NotMatured.ensures)

pub returns-in-WrongStatus : goal.returns-in-WrongStatus
returns-in-WrongStatus c = rw c.in-WrongStatus.is (rw c.status_word.ensures at c.write_word.ensures)

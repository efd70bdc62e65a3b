use Rattle.std.proofs.Common.{◌<◌, ◌≤◌, ◌^◌, ℕ, length, decimal, arith, rules}
use Rattle.std.proofs.lemmas.Fmt.{length-decimal-le}
use Rattle.std.proofs.lemmas.List.{length-drop}
use Rattle.text_lines.proofs.line_end.LineEnd.number.Goals as goal

short : (n : ℕ) → n < 2 ^ 64 → length (decimal n) ≤ 20
short n fits = length-decimal-le 20 n (omega arith) (omega (arith, fits)) fits

pub write_digits-self-inside-requires : goal.write_digits-self-inside-requires
write_digits-self-inside-requires c =
    let room = rw (← c.self.view_is) at c.requires in
    let left = length-drop c.self.inside.at c.self.inside.bytes in
    (omega (arith, short c.args.number c.ranges.number.fits, room, left, c.self.told), search rules)

pub put-requires : goal.put-requires
put-requires c =
    let w = c.write_digits-self-inside in
    let room = rw (← c.self.view_is) at c.requires in
    let before = length-drop c.self.inside.at c.self.inside.bytes in
    let left = length-drop w.result w.new.buf in
    omega (arith, short c.args.number c.ranges.number.fits, room, before, left, w.ensures.start, w.auto.buf, c.self.told)

pub returns-clause-short : goal.returns-clause-short
returns-clause-short c =
    let w = c.write_digits-self-inside in
    let room = rw (← c.self.view_is) at c.requires in
    let before = length-drop c.self.inside.at c.self.inside.bytes in
    let left = length-drop w.result w.new.buf in
    rw (← c.self.view_is, c.put.ensures)
    (omega (arith, short c.args.number c.ranges.number.fits, room, before, left, w.ensures.start, w.auto.buf, c.self.told))

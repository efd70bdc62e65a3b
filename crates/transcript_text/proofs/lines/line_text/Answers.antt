use Rattle.transcript_text.proofs.Names.{◌≡◌, arith, w32, to_z, of_z, IsDay}
use Rattle.std.proofs.lemmas.Int.{ints}
use Rattle.transcript_text.proofs.TextSteps.{value_day}
use Rattle.transcript_text.proofs.lines.line_text.Goals as goal

pub returns-in-Value : goal.returns-in-Value
returns-in-Value c =
    let day : IsDay c.in-Value.on = value_day c.in-Value.on c.in-Value.at c.in-Value.workers c.args.told.now.outcome (rw c.in-Value.is at c.requires) in
    let same : to_z w32 (of_z w32 c.in-Value.on) ≡ c.in-Value.on = omega (arith, ints, day) in
    rw c.in-Value.is (rw same at (c.value_text.ensures c.in-Value.at c.in-Value.workers))

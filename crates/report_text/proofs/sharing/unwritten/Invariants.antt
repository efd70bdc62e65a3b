use Rattle.std.proofs.Common.{◌≡◌, ◌≤◌, length, vec_capacity}
use Rattle.report_text.proofs.sharing.unwritten.Given as goal

abbrev pub invariant-loop : goal.invariant-loop
invariant-loop l = (l.many ≤ vec_capacity l.texts) × (length l.texts.items ≡ l.counter)

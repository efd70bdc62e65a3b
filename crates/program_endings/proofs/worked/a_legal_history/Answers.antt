use Rattle.std.proofs.Common.{rules, refl}
use Rattle.program_endings.proofs.worked.a_legal_history.Goals as goal

pub returns-clause-issue : goal.returns-clause-issue
returns-clause-issue c = record { opens = search rules; due = ((refl, refl), tt) }

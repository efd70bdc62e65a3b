-- Checks one by one
use Rattle.std.specs.Prelude.{◌≡◌, true, not, Ok, Err, Result}
use Rattle.policy_types.specs.declared.refusal.Refusal.{Refusal}
use Rattle.policy_machine.specs.Rules.{Check}

-- a check that doesn't apply is passed, and one that applies refuses
abbrev pub IsAnswerOf : Check → Result (Unit {0}) Refusal → Type 0
IsAnswerOf check (Ok passed) = check.applies ≡ not true
IsAnswerOf check (Err refusal) = (check.applies ≡ true) × (refusal ≡ check.refusal)

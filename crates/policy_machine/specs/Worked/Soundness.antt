-- Worked cases of what holds of every policy of the books
use Rattle.std.specs.Prelude.{pos}
use Rattle.policy_types.specs.declared.policy.Status.TheVariants.{InForce, Claimed, Matured, Settled}
use Rattle.policy_machine.specs.Rules.{IsSound}
use Rattle.policy_machine.specs.Worked.Cases.{policy_with}

-- all premiums paid, in force; a claim, outstanding to the last cent
abbrev pub SoundPolicies : Type 0
SoundPolicies = IsSound (policy_with (pos 18993) 3 InForce 0) × IsSound (policy_with (pos 18414) 1 Claimed 1)

-- a premium too many
abbrev pub NoFourthPremium : Type 0
NoFourthPremium = IsSound (policy_with (pos 18993) 4 InForce 0) → ⊥

-- the last day before the issue
abbrev pub NoLastBeforeIssue : Type 0
NoLastBeforeIssue = IsSound (policy_with (pos 18261) 0 InForce 0) → ⊥

-- more outstanding than the amount
abbrev pub NoMoreThanTheAmount : Type 0
NoMoreThanTheAmount = IsSound (policy_with (pos 18414) 1 Claimed 100001) → ⊥

-- something is outstanding exactly if a benefit awaits its settlement
abbrev pub NothingOutstandingInForce : Type 0
NothingOutstandingInForce = IsSound (policy_with (pos 18414) 1 InForce 1) → ⊥

abbrev pub NothingOutstandingWhenSettled : Type 0
NothingOutstandingWhenSettled = IsSound (policy_with (pos 18414) 1 Settled 1) → ⊥

abbrev pub OutstandingWhenMatured : Type 0
OutstandingWhenMatured = IsSound (policy_with (pos 19358) 3 Matured 0) → ⊥

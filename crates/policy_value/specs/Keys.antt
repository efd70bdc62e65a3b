-- A number for each key of a policy.
use Rattle.std.specs.Prelude.{ℕ, ◌+◌, ◌*◌}
use Rattle.policy_types.specs.declared.command.Plan.{Plan}
use Rattle.policy_types.specs.declared.command.Plan.TheVariants.{Term, Whole, Endowment, Limited}
use Rattle.policy_value.specs.declared.key.CacheKey.{CacheKey}

abbrev pub plan_number : Plan → ℕ
plan_number Term = 0
plan_number Whole = 1
plan_number Endowment = 2
plan_number Limited = 3

abbrev pub key_number : CacheKey → ℕ
key_number key = 65536 * (4 * key.basis_row + plan_number key.plan) + (256 * key.age + key.years)

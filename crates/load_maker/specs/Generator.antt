-- The generator: policies drawn from a number below 2 ^ 31, which each draw renews
use Rattle.std.specs.Prelude.{ℕ, zero, suc, ◌+◌, ◌*◌, ◌/◌, ◌%◌, ◌==◌, if◌then◌else◌, pos}
use Rattle.policy_types.specs.declared.command.Plan.{Plan}
use Rattle.policy_types.specs.declared.command.Plan.TheVariants.{Term, Whole, Endowment, Limited}
use Rattle.load_maker.specs.declared.generator.Drawn.{Drawn}

-- the number after a draw
abbrev pub renewed : ℕ → ℕ
renewed x = (x * 1103515245 + 12345) % 2147483648

-- The policy of five draws: plan, age, years, amount and premium, day of issue from 2000-01-01 on. The years are from
-- 2 to 21, except that whole life has none.
abbrev pub policy_of_draws : (for_plan for_age for_years for_amount for_day : ℕ) → Drawn
policy_of_draws for_plan for_age for_years for_amount for_day =
    let plan : Plan = if for_plan == 0 then Term else if for_plan == 1 then Whole else if for_plan == 2 then Endowment else Limited in
    record {
      plan = plan;
      age = 20 + for_age;
      years = elim plan [ Whole ↦ 0 | _ ↦ 2 + for_years ];
      amount = (for_amount + 1) * 100000;
      premium = (for_amount + 1) * 2000;
      issued = pos (10957 + for_day);
    }

-- the next policy: each draw gives a number below its bound, from the renewed number without its last eight bits
unfoldable pub policy_drawn : ℕ → Drawn
policy_drawn x =
    let first = renewed x in
    let second = renewed first in
    let third = renewed second in
    let fourth = renewed third in
    let fifth = renewed fourth in
    policy_of_draws (first / 256 % 4) (second / 256 % 60) (third / 256 % 20) (fourth / 256 % 1000) (fifth / 256 % 3650)

-- the number after the five draws for each of so many policies; at first it is the seed
unfoldable pub state_after : (seed policies : ℕ) → ℕ
state_after seed zero = seed
state_after seed (suc n) = renewed (renewed (renewed (renewed (renewed (state_after seed n)))))

-- What a command holds, as fields of a line
use Rattle.std.specs.Prelude.{ℕ, List, [], ◌∷◌, decimal}
use Rattle.policy_types.specs.declared.command.Command.{Command}
use Rattle.policy_types.specs.declared.command.Command.TheVariants.{Issue, Premium, Alter, Lapse, Reinstate, Claim, Settle, Mature, PaidUp, Upgrade}
use Rattle.policy_types.specs.declared.command.Plan.{Plan}
use Rattle.policy_types.specs.Words.{plan_word}
use Rattle.life_dates.specs.DayText.{day_text}
use Rattle.money_core.specs.CentsText.{cents_text}

-- the terms of a policy's insurance
abbrev pub insurance_fields : (plan : Plan) (age years amount premium : ℕ) → List (List ℕ)
insurance_fields plan age years amount premium =
    plan_word plan ∷ decimal age ∷ decimal years ∷ cents_text amount ∷ cents_text premium ∷ []

-- what a command holds besides its kind and its policy's number: its day, if it has one, and its terms
abbrev pub entry_fields : Command → List (List ℕ)
entry_fields (Issue id day plan age years amount premium) = day_text day ∷ insurance_fields plan age years amount premium
entry_fields (Premium id day amount) = day_text day ∷ cents_text amount ∷ []
entry_fields (Alter id day amount premium) = day_text day ∷ cents_text amount ∷ cents_text premium ∷ []
entry_fields (Lapse id day) = day_text day ∷ []
entry_fields (Reinstate id day amount) = day_text day ∷ cents_text amount ∷ []
entry_fields (Claim id day) = day_text day ∷ []
entry_fields (Settle id day amount) = day_text day ∷ cents_text amount ∷ []
entry_fields (Mature id day) = day_text day ∷ []
entry_fields (PaidUp id day amount) = day_text day ∷ cents_text amount ∷ []
entry_fields Upgrade = []

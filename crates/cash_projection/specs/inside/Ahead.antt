-- What the code holds of a prospect and of a projection's text.
use Rattle.std.specs.Prelude.{ℕ, List, [], ◌∷◌, codes, decimal, length, false}
use Rattle.policy_types.specs.declared.policy.Status.{Status}
use Rattle.policy_types.specs.declared.policy.Status.TheVariants.{InForce}
use Rattle.life_dates.specs.DayText.{day_text}
use Rattle.text_lines.specs.Lines.{line_of}
use Rattle.cash_projection.specs.Prospects.{Prospect}
use Rattle.cash_projection.specs.declared.printing.Projection.{Projection}

-- the premium that is charged: none for a paid-up policy
abbrev pub charged : Status → ℕ → ℕ
charged status premium = by status
  where
    by : Status → ℕ
    by InForce = premium
    by _ = 0

-- the prospect of a policy that neither pays nor is paid, with so many words
abbrev pub nothing_ahead : ℕ → Prospect
nothing_ahead words = record { rates = λ j. 0; t = 0; n = 0; h = 0; paid = 0; premium = 0; amount = 0; matures = false; words = words }

-- the line that says what was projected
abbrev pub asked_text : Projection → List ℕ
asked_text p = line_of (codes "project") (day_text p.on ∷ decimal p.position ∷ decimal p.policies ∷ decimal (length p.years) ∷ [])

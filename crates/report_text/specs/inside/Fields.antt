-- The fields that the code writes one by one.
use Rattle.std.specs.Prelude.{ℕ, List, [], ◌∷◌, codes}
use Rattle.report_text.specs.Names.{Short, Enough, Close, Terminal, Mean, Deficiency}
use Rattle.deficiency_reserve.specs.declared.answer.Adequacy.{Adequacy}
use Rattle.policy_value.specs.declared.worth.Measure.{Measure}

-- how a premium compares with the net premium
abbrev pub adequacy_word : Adequacy → List ℕ
adequacy_word test = by test
  where
    by : Adequacy → List ℕ
    by Short = codes "short"
    by Enough = codes "enough"
    by Close = codes "close"

-- the measure, if it isn't the terminal reserve
abbrev pub measure_fields : Measure → List (List ℕ)
measure_fields measure = by measure
  where
    by : Measure → List (List ℕ)
    by Terminal = []
    by Mean = codes "mean" ∷ []
    by Deficiency = codes "deficiency" ∷ []

-- The seed 1, computed outside of this repository
use Rattle.std.specs.Prelude.{◌≡◌, [], ◌∷◌, ◌++◌, codes, pos}
use Rattle.policy_types.specs.declared.command.Command.TheVariants.{Issue, Premium}
use Rattle.policy_types.specs.declared.command.Plan.TheVariants.{Term, Endowment}
use Rattle.policy_types.specs.declared.script.Line.TheVariants.{Post}
use Rattle.load_maker.specs.Generator.{renewed, policy_drawn}
use Rattle.load_maker.specs.inside.Rows.{drawn_below}
use Rattle.load_maker.specs.GeneratedScript.{generated_text}
use Rattle.load_maker.specs.GeneratedLanes.{generated_lanes}

-- the five numbers of the first policy
abbrev pub FirstNumbers : Type 0
FirstNumbers = (renewed 1 ≡ 1103527590) × (renewed 1103527590 ≡ 377401575) × (renewed 377401575 ≡ 662824084)
    × (renewed 662824084 ≡ 1147902781) × (renewed 1147902781 ≡ 2035015474)

-- the draws that they give
abbrev pub FirstDraws : Type 0
FirstDraws = (drawn_below 4 1103527590 ≡ 2) × (drawn_below 60 377401575 ≡ 24) × (drawn_below 20 662824084 ≡ 16)
    × (drawn_below 1000 1147902781 ≡ 995) × (drawn_below 3650 2035015474 ≡ 3229)

-- an endowment of 996,000.00, issued on 2008-11-03
abbrev pub FirstPolicy : Type 0
FirstPolicy = policy_drawn 1 ≡ record {
  plan = Endowment;
  age = 44;
  years = 18;
  amount = 99600000;
  premium = 1992000;
  issued = pos 14186;
}

-- the whole script of one policy in one lane
abbrev pub FirstRows : Type 0
FirstRows = generated_text 1 1 1
    ≡ codes "1,issue,1,2008-11-03,endowment,44,18,996000.00,19920.00" ++ (10 ∷ [])
    ++ codes "1,premium,1,2008-11-03,19920.00" ++ (10 ∷ [])

-- three policies that are assigned to two lanes
abbrev pub FirstLanes : Type 0
FirstLanes = generated_lanes 1 2 3 ≡ record {
  number = 1;
  lines = Post (Issue 1 (pos 14186) Endowment 44 18 99600000 1992000) ∷ Post (Premium 1 (pos 14186) 1992000)
      ∷ Post (Issue 3 (pos 11626) Endowment 56 20 60100000 1202000) ∷ Post (Premium 3 (pos 11626) 1202000) ∷ [];
} ∷ record {
  number = 2;
  lines = Post (Issue 2 (pos 13286) Term 22 20 46100000 922000) ∷ Post (Premium 2 (pos 13286) 922000) ∷ [];
} ∷ []

-- Worked lines of `load`, put down by hand from the format
use Rattle.std.specs.Prelude.{◌≡◌, ℕ, List, [], ◌∷◌, ◌++◌, codes, pos}
use Rattle.policy_types.specs.declared.command.Command.TheVariants.{Lapse}
use Rattle.trial_load.specs.Names.{Post, Trim, Reply, Accepted, Refused, Faulted, Floor, Entry, Terminal, block_text, opened_on, AreAnswered}
use Rattle.policy_types.specs.declared.refusal.Refusal.TheVariants.{Unknown}
use Rattle.report_text.specs.Worked.{valued, past_the_table, lapsed}
use Rattle.trial_load.specs.Loading.{HasLine, load_day, refused_in}
use Rattle.trial_load.specs.inside.Loaded.{load_text}

-- sums of 254.44 and 254.46 over four policies, one of which has no bounds; and nothing at all
abbrev pub LinesOfLoads : Type 0
LinesOfLoads = (load_text 7 2 (valued ∷ past_the_table ∷ lapsed ∷ valued ∷ []) ≡ codes "load,7,2,4,254.44,254.46,1" ++ 10 ∷ [])
    × (load_text 200000 0 [] ≡ codes "load,200000,0,0,0.00,0.00,0" ++ 10 ∷ [])

-- the policies are valued on 2020-12-31, at the count
abbrev pub DayOfLoads : Type 0
DayOfLoads = block_text 0 load_day 0 Terminal []
    ≡ codes "0,value,2020-12-31,0,0" ++ (10 ∷ []) ++ codes "total,0.00,0.00,0" ++ 10 ∷ []

abbrev pub lapse_with : Reply → Entry
lapse_with reply = record { caller = 1; call = Post (Lapse 7001 (pos 18262)); reply = reply }

-- two postings are refused, one is accepted, one meets a fault; a trim is no posting
abbrev pub RefusedOfFive : Type 0
RefusedOfFive = refused_in (lapse_with (Refused Unknown) ∷ lapse_with (Accepted 1) ∷ lapse_with (Faulted 3)
    ∷ (record { caller = 1; call = Trim; reply = Floor 1 }) ∷ lapse_with (Refused Unknown) ∷ []) ≡ 2

-- the line was written of a history without turns, on no commands, by no basis
abbrev pub HasWritten : List ℕ → List ℕ → Type 0
HasWritten line dry =
    HasLine [] (λ text. text ≡ line ++ 10 ∷ []) AreAnswered (opened_on [] 0) [] dry

-- it counts no postings and no policies, and is written if the valuation found memory
abbrev pub LinesWritten : Type 0
LinesWritten = HasWritten (codes "load,0,0,0,0.00,0.00,0") []
    × (HasWritten (codes "load,1,0,0,0.00,0.00,0") [] → ⊥)
    × (HasWritten (codes "load,0,0,0,0.00,0.00,0") (0 ∷ []) → ⊥)

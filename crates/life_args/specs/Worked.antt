-- Worked arguments: each command as it is typed, and arguments that are nearly one
use Rattle.std.specs.Prelude.{◌≡◌, ℕ, List, [], ◌∷◌, map, codes, string_bytes, String, Some, None, pos}
use Rattle.life_args.specs.Names.{Global, Now, Position, Terminal, Mean, Deficiency}
use Rattle.life_args.specs.declared.mode.Mode.{Mode}
use Rattle.life_args.specs.declared.mode.Mode.TheVariants.{Run, Value, Project, State, Checkpoint, Generate, Load}
use Rattle.life_args.specs.Words.{AskFor, AskForNothing}

-- arguments with these bytes ask for this
abbrev pub Ask : List (List ℕ) → Mode → Type 0
Ask typed mode = (words : List (String Global)) → map string_bytes words ≡ typed → AskFor words mode

-- arguments with these bytes ask for nothing
abbrev pub AskNothing : List (List ℕ) → Type 0
AskNothing typed = (words : List (String Global)) → map string_bytes words ≡ typed → AskForNothing words

abbrev pub RunWords : Type 0
RunWords = Ask (codes "run" ∷ []) (Run (codes "basis.csv"))
    × Ask (codes "run" ∷ codes "--basis" ∷ codes "b2.csv" ∷ []) (Run (codes "b2.csv"))

-- options before and after the day, in two arguments or in one
abbrev pub ValueWords : Type 0
ValueWords = Ask (codes "value" ∷ codes "2021-01-01" ∷ []) (Value (pos 18628) Now 1 (codes "basis.csv") Terminal)
    × Ask (codes "value" ∷ codes "--at=5" ∷ codes "2021-01-01" ∷ codes "--workers" ∷ codes "64" ∷ [])
    (Value (pos 18628) (Position 5) 64 (codes "basis.csv") Terminal)

-- a flag before the day and after it, next to an option and between its name and value
abbrev pub MeasureWords : Type 0
MeasureWords = Ask (codes "value" ∷ codes "--mean" ∷ codes "2021-01-01" ∷ [])
    (Value (pos 18628) Now 1 (codes "basis.csv") Mean)
    × Ask (codes "value" ∷ codes "2021-01-01" ∷ codes "--at" ∷ codes "5" ∷ codes "--deficiency" ∷ [])
    (Value (pos 18628) (Position 5) 1 (codes "basis.csv") Deficiency)

-- both flags, one of them twice, a flag with a value, one in place of a value, and one with `state`
abbrev pub MeasureNearWords : Type 0
MeasureNearWords = AskNothing (codes "value" ∷ codes "--mean" ∷ codes "2021-01-01" ∷ codes "--deficiency" ∷ [])
    × AskNothing (codes "value" ∷ codes "--mean" ∷ codes "2021-01-01" ∷ codes "--mean" ∷ [])
    × AskNothing (codes "value" ∷ codes "--mean=" ∷ codes "2021-01-01" ∷ [])
    × AskNothing (codes "value" ∷ codes "2021-01-01" ∷ codes "--at" ∷ codes "--mean" ∷ [])
    × AskNothing (codes "state" ∷ codes "--mean" ∷ [])

-- options before the day, in one argument, and after the years
abbrev pub ProjectWords : Type 0
ProjectWords = Ask (codes "project" ∷ codes "2021-01-01" ∷ codes "1" ∷ []) (Project (pos 18628) 1 1 (codes "basis.csv"))
    × Ask (codes "project" ∷ codes "--workers=64" ∷ codes "2021-01-01" ∷ codes "131" ∷ codes "--basis" ∷ codes "b2.csv" ∷ [])
    (Project (pos 18628) 131 64 (codes "b2.csv"))

-- no years, no years and too many, an argument too many, and a position
abbrev pub ProjectNearWords : Type 0
ProjectNearWords = AskNothing (codes "project" ∷ codes "2021-01-01" ∷ [])
    × AskNothing (codes "project" ∷ codes "2021-01-01" ∷ codes "0" ∷ [])
    × AskNothing (codes "project" ∷ codes "2021-01-01" ∷ codes "132" ∷ [])
    × AskNothing (codes "project" ∷ codes "2021-01-01" ∷ codes "1" ∷ codes "2" ∷ [])
    × AskNothing (codes "project" ∷ codes "2021-01-01" ∷ codes "1" ∷ codes "--at" ∷ codes "0" ∷ [])

abbrev pub StateWords : Type 0
StateWords = Ask (codes "state" ∷ []) (State None) × Ask (codes "state" ∷ codes "7001" ∷ []) (State (Some 7001))

-- an argument too many, and an option
abbrev pub CheckpointWords : Type 0
CheckpointWords = Ask (codes "checkpoint" ∷ []) Checkpoint × AskNothing (codes "checkpoint" ∷ codes "now" ∷ [])
    × AskNothing (codes "checkpoint" ∷ codes "--at" ∷ codes "0" ∷ [])

abbrev pub LoadWords : Type 0
LoadWords = Ask (codes "generate" ∷ codes "1" ∷ codes "2" ∷ codes "3" ∷ []) (Generate 1 2 3)
    × Ask (codes "load" ∷ codes "0" ∷ codes "100000" ∷ codes "8" ∷ codes "64" ∷ []) (Load 0 100000 8 64)

-- no arguments, one too many, no day, too few numbers, and no such command
abbrev pub NearWords : Type 0
NearWords = AskNothing [] × AskNothing (codes "run" ∷ codes "now" ∷ []) × AskNothing (codes "value" ∷ [])
    × AskNothing (codes "generate" ∷ codes "1" ∷ codes "1" ∷ []) × AskNothing (codes "help" ∷ [])

-- The result for the arguments
use Rattle.std.specs.Prelude.{◌≡◌, ⊤, List, Result, Ok, Err, String}
use Rattle.std.specs.Global.{Global}
use Rattle.life_args.specs.declared.fault.WordsFault.{WordsFault}
use Rattle.life_args.specs.declared.fault.WordsFault.TheVariants.{Usage, NoMemory}
use Rattle.life_args.specs.declared.mode.Mode.{Mode}
use Rattle.life_args.specs.Words.{AskFor, AskForNothing}

-- the only result for the arguments, if memory isn't refused
abbrev pub IsWordsAnswer : List (String Global) → Result Mode WordsFault → Type 0
IsWordsAnswer words (Ok mode) = AskFor words mode
IsWordsAnswer words (Err Usage) = AskForNothing words
IsWordsAnswer words (Err (NoMemory lack)) = ⊥

-- this result is returned, unless memory was refused
abbrev pub GivesMode : Result Mode WordsFault → Result Mode WordsFault → Type 0
GivesMode (Err (NoMemory lack)) answer = ⊤
GivesMode result answer = answer ≡ result

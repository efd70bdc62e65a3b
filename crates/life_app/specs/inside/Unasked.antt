-- The line that says why the arguments are not obeyed
use Rattle.std.specs.Prelude.{codes}
use Rattle.life_args.specs.declared.fault.WordsFault.{WordsFault}
use Rattle.life_args.specs.declared.fault.WordsFault.TheVariants.{Usage as BadWords, NoMemory as NoWords}
use Rattle.life_app.specs.Names.{Stream, WroteLine, Ending, NoMemory, Usage}

-- the line that says why the arguments aren't obeyed
abbrev pub SaysNoMode : WordsFault → Stream → Ending → Type 0
SaysNoMode BadWords output Usage = WroteLine output (codes "usage")
SaysNoMode (NoWords lack) output (NoMemory other_lack) = WroteLine output (codes "nomemory")
SaysNoMode _ _ _ = ⊥

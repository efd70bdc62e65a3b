-- Words have one answer
use Rattle.life_args.proofs.Names.{List, map, string_bytes, ap, refl, Result, Ok, Err, String, Global, WordsFault, Mode, AskFor, IsFaultOf}
use Rattle.std.specs.Prelude.{IfOk, IfErr}
use Rattle.life_args.specs.declared.fault.WordsFault.TheVariants.{Usage, NoMemory}
use Rattle.life_args.specs.Answers.{GivesMode, IsWordsAnswer}
use Rattle.life_args.proofs.Answering.{ask_once}

pub gives_due : (words : List (String Global)) (given answer : Result Mode WordsFault) → IfOk given (AskFor words) → IfErr given (IsFaultOf words)
    → IsWordsAnswer words answer → GivesMode given answer
gives_due words (Ok mode) (Ok other) right fault due =
    ap (λ (m : Mode). Ok m) (ask_once (map string_bytes words) other mode due right)
gives_due words (Ok mode) (Err Usage) right fault due = absurd (due mode right)
gives_due words (Ok mode) (Err (NoMemory lack)) right fault due = absurd due
gives_due words (Err Usage) (Ok mode) right fault due = absurd (fault mode due)
gives_due words (Err Usage) (Err Usage) right fault due = refl
gives_due words (Err Usage) (Err (NoMemory lack)) right fault due = absurd due
gives_due words (Err (NoMemory lack)) answer right fault due = tt

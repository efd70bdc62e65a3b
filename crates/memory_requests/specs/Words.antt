-- What a command makes of its arguments
use Rattle.std.specs.Prelude.{◌≡◌, ◌≢◌, ⊤, [], List, Result, Ok, Err}
use Rattle.clap.specs.Words.{App, Text, fault_of, found_of, matches_of, rows_of}
use Rattle.clap.specs.declared.parser.matches.ArgMatches.{ArgMatches}
use Rattle.memory_requests.specs.declared.words.NoMatches.{NoMatches}
use Rattle.memory_requests.specs.declared.words.NoMatches.TheVariants.{Usage, NoMemory}

-- it accepts the arguments and these are its matches, or it doesn't accept them
abbrev pub TakesWords : App → List Text → Result ArgMatches NoMatches → Type 0
TakesWords app words (Ok line) = (fault_of app words ≡ []) × (rows_of (found_of line) ≡ matches_of app words)
TakesWords app words (Err Usage) = fault_of app words ≢ []
TakesWords app words (Err (NoMemory lack)) = ⊤

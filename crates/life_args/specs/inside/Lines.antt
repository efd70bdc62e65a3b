-- How `clap` reads the arguments after a verb, and what private calls return
use Rattle.std.specs.Prelude.{◌≡◌, ◌==◌, ◌&&◌, ⊤, Bool, true, false, not, List, [], ◌∷◌, ◌++◌, map, bytes_eq, codes, cond, Some, Result, Ok, Err, option_map, unwrap_or}
use Rattle.life_args.specs.Names.{list_any, App, Rule, Text, found_of, matched_of, new_app, new_rule, raw_values, Found}
use Rattle.clap.specs.declared.builder.action.ArgAction.TheVariants.{Append}
use Rattle.clap.specs.declared.parser.matches.ArgMatches.{ArgMatches}
use Rattle.life_args.specs.declared.fault.WordsFault.{WordsFault}
use Rattle.life_args.specs.declared.fault.WordsFault.TheVariants.{Usage, NoMemory}
use Rattle.life_args.specs.inside.Short.{spelled}
use Rattle.life_args.specs.Pieces.{WordPiece, bare, apart, joined, flag, bare_values, option_values, HasOnly}

-- ---- the words

-- it begins with two hyphens (45), and something follows them
abbrev pub begins_option : Text → Bool
begins_option [] = false
begins_option (byte ∷ []) = false
begins_option (byte ∷ more ∷ bytes) = byte == 45

-- the argument begins with a hyphen, and is no option: `-`, `--` and `-x`
abbrev pub is_odd : Text → Bool
is_odd [] = false
is_odd (byte ∷ bytes) = (byte == 45) && not (begins_option bytes)

abbrev pub has_odd : List Text → Bool
has_odd words = list_any is_odd words

-- a value in an argument of its own doesn't begin with a hyphen
abbrev pub IsPlainText : Text → Type 0
IsPlainText [] = ⊤
IsPlainText (byte ∷ bytes) = (byte == 45) ≡ false

abbrev pub ArePlain : List WordPiece → Type 0
ArePlain [] = ⊤
ArePlain (bare value ∷ pieces) = IsPlainText value × ArePlain pieces
ArePlain (apart name value ∷ pieces) = IsPlainText value × ArePlain pieces
ArePlain (joined name value ∷ pieces) = ArePlain pieces
ArePlain (flag name ∷ pieces) = ArePlain pieces

-- the names of a command's options with a value, and of its flags
pub record OptionNames : Type 0 where
  pub valued : List Text
  pub flags : List Text

abbrev pub no_option_names : OptionNames
no_option_names = record { valued = []; flags = [] }

-- the pieces spell the arguments, and each option has one of these names
pub record Spelling (names : OptionNames) (words : List Text) (pieces : List WordPiece) : Type 0 where
  pub spells : words ≡ spelled pieces
  pub only : HasOnly names.valued names.flags pieces
  pub plain : ArePlain pieces

-- ---- the command

-- an option, which has a value each time that it is used
abbrev pub option_rule : Text → Rule
option_rule name = record (new_rule name) { long = Some name; action = Some Append }

-- a flag, each use of which counts as an empty value
abbrev pub flag_rule : Text → Rule
flag_rule name = record (option_rule name) { range = Some (record { start_inclusive = 0; end_inclusive = 0 }); missing = [] ∷ [] }

-- the id of the values that stand alone
abbrev pub alone_id : Text
alone_id = codes "values"

abbrev pub alone_rule : Rule
alone_rule = record (new_rule alone_id) { action = Some Append }

-- a command with neither a name before its arguments nor a help flag, which takes only values and these options
abbrev pub line_app : OptionNames → App
line_app names = let app = new_app (codes "life") in record app {
  top = record app.top {
    rules = alone_rule ∷ (map option_rule names.valued ++ map flag_rule names.flags);
    no_binary_name = true;
    disable_help_flag = true;
  };
}

-- ---- what was read

-- all values of an id
abbrev pub values_named : Found → Text → List Text
values_named found id = unwrap_or (option_map raw_values (matched_of found id)) []

-- the values of an id among pieces
abbrev pub values_of : List WordPiece → Text → List Text
values_of pieces id = cond (bytes_eq alone_id id) (bare_values pieces) (option_values id pieces)

-- the arguments are spelled by pieces; and whatever pieces spell them, what was found is theirs
pub record IsLine (names : OptionNames) (words : List Text) (line : ArgMatches) : Type 0 where
  pub pieces : List WordPiece
  pub spelling : Spelling names words pieces
  pub every : (others : List WordPiece) → Spelling names words others → (id : Text) → values_named (found_of line) id ≡ values_of others id

abbrev pub ReadsLine : OptionNames → List Text → Result ArgMatches WordsFault → Type 0
ReadsLine names words (Ok line) = IsLine names words line
ReadsLine names words (Err Usage) = (pieces : List WordPiece) → Spelling names words pieces → ⊥
ReadsLine names words (Err (NoMemory lack)) = ⊤

-- the result meets the condition; or nothing meets it, and the arguments are those of no command; or memory was
-- refused
abbrev pub GivesAsked : {T : Type 0} → (T → Type 0) → Result T WordsFault → Type 0
GivesAsked IsAsked (Ok answer) = IsAsked answer
GivesAsked {T} IsAsked (Err Usage) = (answer : T) → IsAsked answer → ⊥
GivesAsked IsAsked (Err (NoMemory lack)) = ⊤

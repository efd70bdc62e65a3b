-- The modes by their first arguments: the options of each, and what its values must be
use Rattle.std.specs.Prelude.{◌≡◌, ◌≤◌, ℕ, List, [], ◌∷◌, codes, decimal, map, option_map, unwrap_or, Option, Some, None, Result, Ok, Err, ℤ}
use Rattle.std.specs.Int.{IsInRange}
use Rattle.std.specs.Borrow.{Bor}
use Rattle.life_dates.specs.Calendar.{IsDay}
use Rattle.life_dates.specs.DayText.{day_text}
use Rattle.clap.specs.declared.parser.matches.Found.{Found}
use Rattle.life_args.specs.declared.fault.WordsFault.{WordsFault}
use Rattle.life_args.specs.declared.mode.Mode.{Mode}
use Rattle.life_args.specs.declared.mode.Mode.TheVariants as mode
use Rattle.life_args.specs.declared.verb.Verb.{Verb}
use Rattle.life_args.specs.declared.verb.Verb.TheVariants.{Run, Value, Project, State, Checkpoint, Generate, Load}
use Rattle.life_args.specs.Pieces.{AtMostOne}
use Rattle.life_args.specs.Values.{IsPositionOr, AreWorkersOr, IsBasisOr, IsMeasureBy, IsPolicyOr}
use Rattle.life_args.specs.inside.Lines.{GivesAsked, OptionNames, alone_id, no_option_names, values_named}

abbrev pub verb_word : Verb → List ℕ
verb_word Run = codes "run"
verb_word Value = codes "value"
verb_word Project = codes "project"
verb_word State = codes "state"
verb_word Checkpoint = codes "checkpoint"
verb_word Generate = codes "generate"
verb_word Load = codes "load"

abbrev pub verb_of : Mode → Verb
verb_of (mode.Run basis) = Run
verb_of (mode.Value on position workers basis measure) = Value
verb_of (mode.Project on years workers basis) = Project
verb_of (mode.State id) = State
verb_of mode.Checkpoint = Checkpoint
verb_of (mode.Generate seed count lanes) = Generate
verb_of (mode.Load seed count lanes workers) = Load

-- the names of a verb's options
abbrev pub options_of : Verb → OptionNames
options_of Run = record { valued = codes "basis" ∷ []; flags = [] }
options_of Value = record {
  valued = codes "at" ∷ codes "workers" ∷ codes "basis" ∷ [];
  flags = codes "mean" ∷ codes "deficiency" ∷ [];
}
options_of Project = record { valued = codes "workers" ∷ codes "basis" ∷ []; flags = [] }
options_of State = no_option_names
options_of Checkpoint = no_option_names
options_of Generate = no_option_names
options_of Load = no_option_names

-- the day, as YYYY-MM-DD
abbrev pub IsDayValue : List ℕ → ℤ → Type 0
IsDayValue value day = IsDay day × (value ≡ day_text day)

-- there is exactly one value, and it meets the condition
abbrev pub JustOne : List (List ℕ) → (List ℕ → Type 0) → Type 0
JustOne values IsAsked = (value : List ℕ) × (values ≡ value ∷ []) × IsAsked value

-- there are exactly two values, a day and a number of years
abbrev pub AreDayAndYears : List (List ℕ) → ℤ → ℕ → Type 0
AreDayAndYears values on years =
    (day : List ℕ) × (values ≡ day ∷ decimal years ∷ []) × IsDayValue day on × IsInRange 1 131 years

-- the values of an id, of which there may be none
abbrev pub texts_of : Option (Bor (List (Bor (List ℕ)))) → List (List ℕ)
texts_of values = unwrap_or (option_map (λ list. map (λ value. value.now) list.now) values) []

-- the value, if there is at most one
abbrev pub IsLone : List (List ℕ) → Option (List ℕ) → Type 0
IsLone values None = values ≡ []
IsLone values (Some value) = values ≡ value ∷ []

abbrev pub GivesLone : List (List ℕ) → Result (Option (Bor (List ℕ))) WordsFault → Type 0
GivesLone values (Ok given) = IsLone values (option_map (λ value. value.now) given)
GivesLone values (Err fault) = GivesAsked (IsLone values) (Err fault)

-- the value is the number, which is from `least` to `most`
pub record IsNumberValue (least most : ℕ) (value : List ℕ) (number : ℕ) : Type 0 where
  pub low : least ≤ number
  pub high : number ≤ most
  pub is : value ≡ decimal number

pub record AreDrawn (seed count lanes : List ℕ) (drawn : ℕ × ℕ × ℕ) : Type 0 where
  pub seed_is : IsNumberValue 0 2147483647 seed drawn.0
  pub count_is : IsNumberValue 1 100000 count drawn.1
  pub lanes_is : IsNumberValue 1 8 lanes drawn.2

-- the seed, the policies and the lanes of a script
abbrev pub AreDraws : (seed count lanes : ℕ) → Type 0
AreDraws seed count lanes = (seed ≤ 2147483647) × IsInRange 1 100000 count × IsInRange 1 8 lanes

-- the values of each id say the mode
abbrev pub SaysMode : (List ℕ → List (List ℕ)) → Mode → Type 0
SaysMode values (mode.Run basis) =
    (values alone_id ≡ []) × AtMostOne (values (codes "basis")) (λ given. IsBasisOr given basis)
SaysMode values (mode.Value on position workers basis measure) =
    JustOne (values alone_id) (λ value. IsDayValue value on)
    × AtMostOne (values (codes "at")) (λ given. IsPositionOr given position)
    × AtMostOne (values (codes "workers")) (λ given. AreWorkersOr given workers)
    × AtMostOne (values (codes "basis")) (λ given. IsBasisOr given basis)
    × IsMeasureBy (values (codes "mean")) (values (codes "deficiency")) measure
SaysMode values (mode.Project on years workers basis) =
    AreDayAndYears (values alone_id) on years
    × AtMostOne (values (codes "workers")) (λ given. AreWorkersOr given workers)
    × AtMostOne (values (codes "basis")) (λ given. IsBasisOr given basis)
SaysMode values (mode.State id) = AtMostOne (values alone_id) (λ given. IsPolicyOr given id)
SaysMode values mode.Checkpoint = values alone_id ≡ []
SaysMode values (mode.Generate seed count lanes) =
    (values alone_id ≡ decimal seed ∷ decimal count ∷ decimal lanes ∷ []) × AreDraws seed count lanes
SaysMode values (mode.Load seed count lanes workers) =
    (values alone_id ≡ decimal seed ∷ decimal count ∷ decimal lanes ∷ decimal workers ∷ [])
    × AreDraws seed count lanes × IsInRange 1 64 workers

-- what was found after a verb asks for the mode
pub record AsksFor (verb : Verb) (found : Found) (mode : Mode) : Type 0 where
  pub is : verb_of mode ≡ verb
  pub says : SaysMode (values_named found) mode

-- The arguments of the program's commands
use Rattle.std.specs.Prelude.{◌≡◌, ℕ, ◌≤◌, List, [], ◌∷◌, map, codes, decimal, string_bytes, String, Option, ℤ}
use Rattle.std.specs.Int.{IsInRange}
use Rattle.std.specs.List.{flat_map}
use Rattle.life_dates.specs.Calendar.{IsDay}
use Rattle.life_dates.specs.DayText.{day_text}
use Rattle.life_args.specs.Names.{Global, Contains, At, Measure}
use Rattle.life_args.specs.declared.fault.WordsFault.{WordsFault}
use Rattle.life_args.specs.declared.fault.WordsFault.TheVariants.{Usage, NoMemory}
use Rattle.life_args.specs.declared.mode.Mode.{Mode}
use Rattle.life_args.specs.declared.mode.Mode.TheVariants.{Run, Value, Project, State, Checkpoint, Generate, Load}
use Rattle.life_args.specs.Pieces.{WordPiece, piece_words, bare_values, option_values, HasOnly, AtMostOne}
use Rattle.life_args.specs.Values.{IsPositionOr, AreWorkersOr, IsBasisOr, IsMeasureBy, IsPolicyOr}

-- `run [--basis NAME]`: the arguments after `run`
pub record IsRun (words : List (List ℕ)) (basis : List ℕ) : Type 0 where
  pub pieces : List WordPiece
  pub spells : words ≡ flat_map piece_words pieces
  pub only : HasOnly (codes "basis" ∷ []) [] pieces
  pub alone : bare_values pieces ≡ []
  pub basis_is : AtMostOne (option_values (codes "basis") pieces) (λ given. IsBasisOr given basis)

-- `value ON [--at P] [--workers N] [--basis NAME] [--mean | --deficiency]`: the arguments after `value`, options anywhere
-- among them
pub record IsValue (words : List (List ℕ)) (on : ℤ) (position : At) (workers : ℕ) (basis : List ℕ) (measure : Measure) : Type 0 where
  pub pieces : List WordPiece
  pub spells : words ≡ flat_map piece_words pieces
  pub only : HasOnly (codes "at" ∷ codes "workers" ∷ codes "basis" ∷ []) (codes "mean" ∷ codes "deficiency" ∷ []) pieces
  pub day : List ℕ
  pub alone : bare_values pieces ≡ day ∷ []
  pub day_is : IsDay on × (day ≡ day_text on)
  pub position_is : AtMostOne (option_values (codes "at") pieces) (λ given. IsPositionOr given position)
  pub workers_are : AtMostOne (option_values (codes "workers") pieces) (λ given. AreWorkersOr given workers)
  pub basis_is : AtMostOne (option_values (codes "basis") pieces) (λ given. IsBasisOr given basis)
  pub measure_is : IsMeasureBy (option_values (codes "mean") pieces) (option_values (codes "deficiency") pieces) measure

-- `project ON YEARS [--workers N] [--basis NAME]`: the arguments after `project`, options anywhere among them
pub record IsProject (words : List (List ℕ)) (on : ℤ) (years workers : ℕ) (basis : List ℕ) : Type 0 where
  pub pieces : List WordPiece
  pub spells : words ≡ flat_map piece_words pieces
  pub only : HasOnly (codes "workers" ∷ codes "basis" ∷ []) [] pieces
  pub day : List ℕ
  pub alone : bare_values pieces ≡ day ∷ decimal years ∷ []
  pub day_is : IsDay on × (day ≡ day_text on)
  pub years_in : IsInRange 1 131 years
  pub workers_are : AtMostOne (option_values (codes "workers") pieces) (λ given. AreWorkersOr given workers)
  pub basis_is : AtMostOne (option_values (codes "basis") pieces) (λ given. IsBasisOr given basis)

-- `state [ID]`: the arguments after `state`
pub record IsState (words : List (List ℕ)) (id : Option ℕ) : Type 0 where
  pub pieces : List WordPiece
  pub spells : words ≡ flat_map piece_words pieces
  pub only : HasOnly [] [] pieces
  pub id_is : AtMostOne (bare_values pieces) (λ given. IsPolicyOr given id)

-- the first argument is the mode's name, and those after it are the mode's
abbrev pub AreWords : List (List ℕ) → Mode → Type 0
AreWords [] mode = ⊥
AreWords (word ∷ words) (Run basis) = (word ≡ codes "run") × IsRun words basis
AreWords (word ∷ words) (Value on position workers basis measure) =
    (word ≡ codes "value") × IsValue words on position workers basis measure
AreWords (word ∷ words) (Project on years workers basis) = (word ≡ codes "project") × IsProject words on years workers basis
AreWords (word ∷ words) (State id) = (word ≡ codes "state") × IsState words id
AreWords (word ∷ words) Checkpoint = (word ≡ codes "checkpoint") × (words ≡ [])
AreWords (word ∷ words) (Generate seed count lanes) =
    (word ≡ codes "generate") × (words ≡ decimal seed ∷ decimal count ∷ decimal lanes ∷ [])
    × (seed ≤ 2147483647) × IsInRange 1 100000 count × IsInRange 1 8 lanes
AreWords (word ∷ words) (Load seed count lanes workers) =
    (word ≡ codes "load") × (words ≡ decimal seed ∷ decimal count ∷ decimal lanes ∷ decimal workers ∷ [])
    × (seed ≤ 2147483647) × IsInRange 1 100000 count × IsInRange 1 8 lanes × IsInRange 1 64 workers

-- the arguments ask for this
abbrev pub AskFor : List (String Global) → Mode → Type 0
AskFor words mode = AreWords (map string_bytes words) mode

-- the arguments are those of no command
abbrev pub AskForNothing : List (String Global) → Type 0
AskForNothing words = (mode : Mode) → AskFor words mode → ⊥

-- the names of the modes
abbrev pub mode_names : List (List ℕ)
mode_names = codes "run" ∷ codes "value" ∷ codes "project" ∷ codes "state" ∷ codes "checkpoint" ∷ codes "generate" ∷ codes "load" ∷ []

-- the first argument is the name of a mode
abbrev pub NameAMode : List (List ℕ) → Type 0
NameAMode [] = ⊥
NameAMode (word ∷ words) = Contains mode_names word

-- the cause of a fault. Memory is asked for, and may be refused, only if a mode is named.
abbrev pub IsFaultOf : List (String Global) → WordsFault → Type 0
IsFaultOf words Usage = AskForNothing words
IsFaultOf words (NoMemory lack) = NameAMode (map string_bytes words)

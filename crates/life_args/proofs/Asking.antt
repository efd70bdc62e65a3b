-- The arguments of a mode, as pieces whose values say the mode
use Rattle.life_args.proofs.Names.{◌≡◌, ◌≤◌, ◌<◌, ◌^◌, ℕ, Bool, true, false, cond, List, [], ◌∷◌, Option, Some, None, refl, sym, ap, ◌∙◌, subst, arith, inl, inr, bytes_eq, codes, decimal, length, map, ⊤, has_byte, At, Now, Position, Mode, Verb, Run, Value, Project, State, Checkpoint, Generate, Load, WordPiece, bare, apart, joined, flag, spelled, bare_values, option_values, value_under, IsAmong, HasOnly, AtMostOne, IsPositionOr, AreWorkersOr, IsBasisOr, IsPolicyOr, IsInRange, AreWords, ArePlain, IsPlainText, OptionNames, Spelling, alone_id, line_app, values_of, SaysMode, options_of, verb_of, verb_word}
use Rattle.clap.specs.Walk.{Text, arg_by_long}
use Rattle.clap.specs.Faults.{is_simple_and_free}
use Rattle.life_args.specs.declared.mode.Mode.TheVariants as mode
use Rattle.life_args.proofs.Rules.{AreGood, IsGood, filled_option, own}
use Rattle.life_args.proofs.Lines.{differ}
use Rattle.life_args.proofs.Texts.{plain_day, plain_decimal, plain_name}

-- ---- the verbs

-- each has a word of its own
pub same_verb : (a b : Verb) → verb_word a ≡ verb_word b → a ≡ b
same_verb Run Run e = refl
same_verb Value Value e = refl
same_verb Project Project e = refl
same_verb State State e = refl
same_verb Checkpoint Checkpoint e = refl
same_verb Generate Generate e = refl
same_verb Load Load e = refl
same_verb a b e = absurd (differ (verb_word a) (verb_word b) refl e)

pub simple : (verb : Verb) → is_simple_and_free (line_app (options_of verb)) ≡ true
simple Run = refl
simple verb = refl

-- what holds of each name
abbrev AllOf : (Text → Type 0) → List Text → Type 0
AllOf P [] = ⊤
AllOf P (name ∷ names) = P name × AllOf P names

each : (P : Text → Type 0) (names : List Text) → AllOf P names → (name : Text) → IsAmong names name → P name
each P [] all name among = absurd among
each P (one ∷ names) all name (inl is) = subst P (sym is) all.0
each P (one ∷ names) all name (inr more) = each P names all.1 name more

a_good : (name : Text) → 0 < length name → has_byte 61 name ≡ false → bytes_eq alone_id name ≡ false → IsGood name
a_good name some lacks other = record { named = record { some = some; lacks = lacks }; other = other }

all_good : (verb : Verb) → AllOf IsGood (options_of verb).valued
all_good Run = (a_good (codes "basis") (omega arith) refl refl, tt)
all_good Value = (a_good (codes "at") (omega arith) refl refl, (a_good (codes "workers") (omega arith) refl refl, (a_good (codes "basis") (omega arith) refl refl, tt)))
all_good Project = (a_good (codes "workers") (omega arith) refl refl, (a_good (codes "basis") (omega arith) refl refl, tt))
all_good verb = tt

-- a flag's name is good, and no option's
abbrev IsGoodFlag : Verb → Text → Type 0
IsGoodFlag verb name = IsGood name × (arg_by_long (map filled_option (options_of verb).valued) name ≡ None)

all_flags_good : (verb : Verb) → AllOf (IsGoodFlag verb) (options_of verb).flags
all_flags_good Value = ((a_good (codes "mean") (omega arith) refl refl, refl), ((a_good (codes "deficiency") (omega arith) refl refl, refl), tt))
all_flags_good verb = tt

pub good : (verb : Verb) → AreGood (options_of verb)
good verb = record {
  valued = each IsGood (options_of verb).valued (all_good verb);
  flags = λ name among. (each (IsGoodFlag verb) (options_of verb).flags (all_flags_good verb) name among).0;
  apart = λ name among. (each (IsGoodFlag verb) (options_of verb).flags (all_flags_good verb) name among).1;
}

-- ---- values are plain

abbrev EachPlain : List Text → Type 0
EachPlain [] = ⊤
EachPlain (value ∷ values) = IsPlainText value × EachPlain values

plain_lone : (values : List Text) (P : Option Text → Type 0) → AtMostOne values P → ((value : Text) → P (Some value) → IsPlainText value) → EachPlain values
plain_lone [] P asked plain = tt
plain_lone (value ∷ []) P asked plain = (plain value asked, tt)
plain_lone (value ∷ other ∷ values) P asked plain = absurd asked

plain_position : (position : At) (value : Text) → IsPositionOr (Some value) position → IsPlainText value
plain_position Now value asked = absurd asked
plain_position (Position n) value asked = plain_decimal value n (omega (arith, asked.0)) asked.1

plain_workers : (workers : ℕ) (values : List Text) → AtMostOne values (λ given. AreWorkersOr given workers) → EachPlain values
plain_workers workers values asked = plain_lone values (λ given. AreWorkersOr given workers) asked (λ value is. plain_decimal value workers (omega (arith, is.1)) is.2)

plain_basis : (basis : Text) (values : List Text) → AtMostOne values (λ given. IsBasisOr given basis) → EachPlain values
plain_basis basis values asked = plain_lone values (λ given. IsBasisOr given basis) asked (λ value is. plain_name value is.0)

plain_policy : (id : Option ℕ) (value : Text) → IsPolicyOr (Some value) id → IsPlainText value
plain_policy None value asked = absurd asked
plain_policy (Some id) value asked = plain_decimal value id (omega (arith, asked.0)) asked.1

plain_number : (most n : ℕ) → most < 2 ^ 64 → n ≤ most → IsPlainText (decimal n)
plain_number most n small high = plain_decimal (decimal n) n (omega arith) refl

rest_plain : (name one value : Text) (values : List Text) → EachPlain (value_under name one value values) → EachPlain values
rest_plain name one value values plain = go (bytes_eq one name) plain
  where
    go : (t : Bool) → EachPlain (cond t (value ∷ values) values) → EachPlain values
    go true h = h.1
    go false h = h

own_plain : (name value : Text) (values : List Text) → EachPlain (value_under name name value values) → IsPlainText value
own_plain name value values plain = (subst (λ (t : Bool). EachPlain (cond t (value ∷ values) values)) (own name) plain).0

are_plain : (names : OptionNames) (pieces : List WordPiece) → HasOnly names.valued names.flags pieces → EachPlain (bare_values pieces)
    → ((name : Text) → IsAmong names.valued name → EachPlain (option_values name pieces)) → ArePlain pieces
are_plain names [] only alone options = tt
are_plain names (bare value ∷ pieces) only alone options = (alone.0, are_plain names pieces only alone.1 options)
are_plain names (apart one value ∷ pieces) only alone options = (
  own_plain one value (option_values one pieces) (options one only.0),
  are_plain names pieces only.1 alone (λ name among. rest_plain name one value (option_values name pieces) (options name among)),
)
are_plain names (joined one value ∷ pieces) only alone options =
    are_plain names pieces only.1 alone (λ name among. rest_plain name one value (option_values name pieces) (options name among))
are_plain names (flag one ∷ pieces) only alone options =
    are_plain names pieces only.1 alone (λ name among. rest_plain name one [] (option_values name pieces) (options name among))

-- ---- the arguments of a mode

pub record Asked (mode : Mode) (words : List Text) : Type 0 where
  pub pieces : List WordPiece
  pub spelling : Spelling (options_of (verb_of mode)) words pieces
  pub says : SaysMode (values_of pieces) mode

-- pieces that spell the words say the mode, and their values are plain
asked_so : (one : Mode) (words : List Text) (pieces : List WordPiece) → words ≡ spelled pieces → HasOnly (options_of (verb_of one)).valued (options_of (verb_of one)).flags pieces
    → EachPlain (bare_values pieces) → AllOf (λ name. EachPlain (option_values name pieces)) (options_of (verb_of one)).valued → SaysMode (values_of pieces) one → Asked one words
asked_so one words pieces spells only alone options says =
    let names = options_of (verb_of one) in
    let plain = are_plain names pieces only alone (each (λ name. EachPlain (option_values name pieces)) names.valued options) in
    record { pieces = pieces; spelling = record { spells = spells; only = only; plain = plain }; says = says }

plain_draws : (seed count lanes : ℕ) (values : List Text) → seed ≤ 2147483647 → IsInRange 1 100000 count → IsInRange 1 8 lanes → EachPlain values
    → EachPlain (decimal seed ∷ decimal count ∷ decimal lanes ∷ values)
plain_draws seed count lanes values a b c more =
    (plain_number 2147483647 seed (omega arith) a, (plain_number 100000 count (omega arith) b.1, (plain_number 8 lanes (omega arith) c.1, more)))

pub asked : (word : Text) (words : List Text) (one : Mode) → AreWords (word ∷ words) one → (word ≡ verb_word (verb_of one)) × Asked one words
asked word words (mode.Run basis) are =
    let is = are.1 in
    (are.0, asked_so (mode.Run basis) words is.pieces is.spells is.only (subst EachPlain (sym is.alone) tt) (plain_basis basis _ is.basis_is, tt) (is.alone, is.basis_is))
asked word words (mode.Value on position workers basis measure) are =
    let is = are.1 in
    let alone = subst EachPlain (sym is.alone) (plain_day is.day on is.day_is.1, tt) in
    let at = plain_lone _ (λ given. IsPositionOr given position) is.position_is (plain_position position) in (
      are.0,
      asked_so (mode.Value on position workers basis measure) words is.pieces is.spells is.only alone (at, (plain_workers workers _ is.workers_are, (plain_basis basis _ is.basis_is, tt)))
          ((is.day, is.alone, is.day_is), is.position_is, is.workers_are, is.basis_is, is.measure_is),
    )
asked word words (mode.Project on years workers basis) are =
    let is = are.1 in
    let alone = subst EachPlain (sym is.alone) (plain_day is.day on is.day_is.1, (plain_number 131 years (omega arith) is.years_in.1, tt)) in (
      are.0,
      asked_so (mode.Project on years workers basis) words is.pieces is.spells is.only alone (plain_workers workers _ is.workers_are, (plain_basis basis _ is.basis_is, tt))
          ((is.day, is.alone, is.day_is, is.years_in), is.workers_are, is.basis_is),
    )
asked word words (mode.State id) are =
    let is = are.1 in
    (are.0, asked_so (mode.State id) words is.pieces is.spells is.only (plain_lone _ (λ given. IsPolicyOr given id) is.id_is (plain_policy id)) tt is.id_is)
asked word words mode.Checkpoint are = (are.0, asked_so mode.Checkpoint words [] are.1 tt tt tt refl)
asked word words (mode.Generate seed count lanes) are = (
  are.0,
  asked_so (mode.Generate seed count lanes) words (bare (decimal seed) ∷ bare (decimal count) ∷ bare (decimal lanes) ∷ []) are.1 tt
      (plain_draws seed count lanes [] are.2 are.3 are.4 tt) tt (refl, (are.2, are.3, are.4)),
)
asked word words (mode.Load seed count lanes workers) are =
    let crew = plain_number 64 workers (omega arith) are.5.1 in (
      are.0,
      asked_so (mode.Load seed count lanes workers) words (bare (decimal seed) ∷ bare (decimal count) ∷ bare (decimal lanes) ∷ bare (decimal workers) ∷ []) are.1 tt
          (plain_draws seed count lanes (decimal workers ∷ []) are.2 are.3 are.4 (crew, tt)) tt (refl, (are.2, are.3, are.4), are.5),
    )

-- without options each piece is a word
all_bare : (pieces : List WordPiece) → HasOnly [] [] pieces → spelled pieces ≡ bare_values pieces
all_bare [] only = refl
all_bare (bare value ∷ pieces) only = ap (λ (ws : List Text). value ∷ ws) (all_bare pieces only)
all_bare (apart name value ∷ pieces) only = absurd only.0
all_bare (joined name value ∷ pieces) only = absurd only.0
all_bare (flag name ∷ pieces) only = absurd only.0

pub asking : (words : List Text) (one : Mode) → Asked one words → AreWords (verb_word (verb_of one) ∷ words) one
asking words (mode.Run basis) is = (refl, record { pieces = is.pieces; spells = is.spelling.spells; only = is.spelling.only; alone = is.says.0; basis_is = is.says.1 })
asking words (mode.Value on position workers basis measure) is = (
  refl,
  record {
    pieces = is.pieces;
    spells = is.spelling.spells;
    only = is.spelling.only;
    day = is.says.0.0;
    alone = is.says.0.1;
    day_is = is.says.0.2;
    position_is = is.says.1;
    workers_are = is.says.2;
    basis_is = is.says.3;
    measure_is = is.says.4;
  },
)
asking words (mode.Project on years workers basis) is = (
  refl,
  record {
    pieces = is.pieces;
    spells = is.spelling.spells;
    only = is.spelling.only;
    day = is.says.0.0;
    alone = is.says.0.1;
    day_is = is.says.0.2;
    years_in = is.says.0.3;
    workers_are = is.says.1;
    basis_is = is.says.2;
  },
)
asking words (mode.State id) is = (refl, record { pieces = is.pieces; spells = is.spelling.spells; only = is.spelling.only; id_is = is.says })
asking words mode.Checkpoint is = (refl, is.spelling.spells ∙ all_bare is.pieces is.spelling.only ∙ is.says)
asking words (mode.Generate seed count lanes) is =
    (refl, is.spelling.spells ∙ all_bare is.pieces is.spelling.only ∙ is.says.0, is.says.1.0, is.says.1.1, is.says.1.2)
asking words (mode.Load seed count lanes workers) is =
    (refl, is.spelling.spells ∙ all_bare is.pieces is.spelling.only ∙ is.says.0, is.says.1.0, is.says.1.1, is.says.1.2, is.says.2)

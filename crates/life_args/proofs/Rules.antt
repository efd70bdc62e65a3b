-- The arguments of a line's command, as `clap` fills them in
use Rattle.life_args.proofs.Names.{◌≡◌, ◌⊎◌, ◌&&◌, ℕ, Bool, true, false, find, is_some, not, List, [], ◌∷◌, ◌++◌, map, Some, None, refl, sym, ap, ap₂, ◌∙◌, inl, inr, bytes_eq, true≢false, filled, filled_from, with_index, use_fault, InvalidValue, IsAmong, OptionNames, alone_id, alone_rule, flag_rule, option_rule}
use Rattle.std.specs.Option.{option_or}
use Rattle.std.proofs.Math.Bool.{or-false}
use Rattle.std.proofs.lemmas.List.Folds.{find-append}
use Rattle.std.proofs.lemmas.Slice.Eq.{bytes_eq-Decides}
use Rattle.clap.specs.Walk.{Row, Rule, Text, arg_by_id, arg_by_long, has_long, most_values, used, with_values}
use Rattle.clap.specs.declared.builder.value_parser.Reading.TheVariants.{AsWritten}
use Rattle.clap.specs.declared.parser.matches.ValueSource.TheVariants.{CommandLine}
use Rattle.life_args.proofs.Lexing.{IsOptionName}

abbrev pub filled_alone : Rule
filled_alone = with_index 1 (filled alone_rule)

abbrev pub filled_option : Text → Rule
filled_option name = filled (option_rule name)

abbrev pub filled_flag : Text → Rule
filled_flag name = filled (flag_rule name)

abbrev pub rules : OptionNames → List Rule
rules names = filled_alone ∷ (map filled_option names.valued ++ map filled_flag names.flags)

-- options take no place
filled_flags : (i : ℕ) (flags : List Text) → filled_from i (map flag_rule flags) ≡ map filled_flag flags
filled_flags i [] = refl
filled_flags i (name ∷ flags) = ap (λ rest. filled_flag name ∷ rest) (filled_flags i flags)

pub filled_options : (i : ℕ) (valued flags : List Text) → filled_from i (map option_rule valued ++ map flag_rule flags) ≡ map filled_option valued ++ map filled_flag flags
filled_options i [] flags = filled_flags i flags
filled_options i (name ∷ valued) flags = ap (λ rest. filled_option name ∷ rest) (filled_options i valued flags)

-- a name is an option's, and not the id of the values that stand alone
pub record IsGood (name : Text) : Type 0 where
  pub named : IsOptionName name
  pub other : bytes_eq alone_id name ≡ false

-- and so are all names, and no option with a value has the name of a flag
pub record AreGood (names : OptionNames) : Type 0 where
  pub valued : (name : Text) → IsAmong names.valued name → IsGood name
  pub flags : (name : Text) → IsAmong names.flags name → IsGood name
  pub apart : (name : Text) → IsAmong names.flags name → arg_by_long (map filled_option names.valued) name ≡ None

pub same : (a b : Text) → bytes_eq a b ≡ true → a ≡ b
same a b = (bytes_eq-Decides a b).0

pub own : (a : Text) → bytes_eq a a ≡ true
own a = (bytes_eq-Decides a a).1 refl

-- ---- one use

-- the values of an id have one more
abbrev pub add : Text → Text → List Row → List Row
add id value rows = with_values id AsWritten CommandLine (value ∷ []) rows

-- an id of the command, and what its uses come to
pub record IsKnown (names : OptionNames) (id : Text) : Type 0 where
  pub argument : Rule
  pub found : arg_by_id (rules names) id ≡ Some argument
  pub is : argument.id ≡ id
  pub one : most_values argument ≡ 1
  pub adds : (value : Text) (rows : List Row) → used argument (value ∷ []) rows ≡ add id value rows
  pub fits : (value : Text) (rows : List Row) → use_fault false argument (value ∷ []) rows ≡ []
  pub wants : (rows : List Row) → use_fault false argument [] rows ≡ InvalidValue ∷ []

pub alone_known : (names : OptionNames) → IsKnown names alone_id
alone_known names = record { argument = filled_alone; found = refl; is = refl; one = refl; adds = λ value rows. refl; fits = λ value rows. refl; wants = λ rows. refl }

-- ---- names

-- rules that have names are found by them
module _ (test : Rule → Bool) (rule : Text → Rule) (name : Text) (tests : (one : Text) → test (rule one) ≡ bytes_eq one name) where
  abbrev Looked : List Text → Type 0
  Looked names = ((find test (map rule names) ≡ Some (rule name)) × IsAmong names name) ⊎ ((find test (map rule names) ≡ None) × (IsAmong names name → ⊥))

  looked : (names : List Text) → Looked names
  looked [] = inr (refl, λ never. never)
  looked (one ∷ names) = go (bytes_eq one name) refl (looked names)
    where
      go : (b : Bool) → bytes_eq one name ≡ b → Looked names → Looked (one ∷ names)
      go true e rest = let is = same one name e in inl (rw (tests one ∙ e) (ap (λ (n : Text). Some (rule n)) is), inl (sym is))
      go false e (inl is) = inl (rw (tests one ∙ e) is.0, inr is.1)
      go false e (inr none) = inr (
        rw (tests one ∙ e) none.0,
        λ among. elim among [
          | inl is ↦ true≢false (sym (own name) ∙ ap (λ (n : Text). bytes_eq n name) is ∙ e)
          | inr more ↦ none.1 more
        ],
      )

  present : (names : List Text) → IsAmong names name → find test (map rule names) ≡ Some (rule name)
  present names among = elim (looked names) [
    | inl is ↦ is.0
    | inr none ↦ absurd (none.1 among)
  ]

abbrev is_long : Text → Rule → Bool
is_long name a = not (is_some a.index) && has_long a name

module _ (names : OptionNames) (name : Text) where
  abbrev options : List Rule
  options = map filled_option names.valued

  abbrev flags : List Rule
  flags = map filled_flag names.flags

  -- an option is looked for first, and then a flag
  apart : arg_by_long (rules names) name ≡ option_or (arg_by_long options name) (arg_by_long flags name)
  apart = find-append _ options flags

  pub long_found : ((arg_by_long (rules names) name ≡ Some (filled_option name)) × IsAmong names.valued name)
      ⊎ (((arg_by_long (rules names) name ≡ Some (filled_flag name)) × IsAmong names.flags name) ⊎ (arg_by_long (rules names) name ≡ None))
  long_found = elim (looked (is_long name) filled_option name (λ one. or-false (bytes_eq one name)) names.valued) [
    | inl is ↦ inl (apart ∙ ap (λ o. option_or o (arg_by_long flags name)) is.0, is.1)
    | inr none ↦ elim (looked (is_long name) filled_flag name (λ one. or-false (bytes_eq one name)) names.flags) [
      | inl is ↦ inr (inl (apart ∙ ap₂ option_or none.0 is.0, is.1))
      | inr neither ↦ inr (inr (apart ∙ ap₂ option_or none.0 neither.0))
    ]
  ]

  pub long_is : IsAmong names.valued name → arg_by_long (rules names) name ≡ Some (filled_option name)
  long_is among = apart ∙ ap (λ o. option_or o (arg_by_long flags name)) (present (is_long name) filled_option name (λ one. or-false (bytes_eq one name)) names.valued among)

  pub flag_is : AreGood names → IsAmong names.flags name → arg_by_long (rules names) name ≡ Some (filled_flag name)
  flag_is good among = apart ∙ ap₂ option_or (good.apart name among) (present (is_long name) filled_flag name (λ one. or-false (bytes_eq one name)) names.flags among)

  pub option_known : bytes_eq alone_id name ≡ false → IsAmong names.valued name → IsKnown names name
  option_known other among = record {
    argument = filled_option name;
    found = rw other (find-append _ options flags
        ∙ ap (λ o. option_or o (arg_by_id flags name)) (present (λ a. bytes_eq a.id name) filled_option name (λ one. refl) names.valued among));
    is = refl;
    one = refl;
    adds = λ value rows. refl;
    fits = λ value rows. refl;
    wants = λ rows. refl;
  }

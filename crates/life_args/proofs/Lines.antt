-- What a line's command makes of words: it takes those that pieces spell, and finds the pieces' values
use Rattle.life_args.proofs.Names.{◌≡◌, ◌&&◌, ◌||◌, Bool, true, false, cond, fold, not, List, [], ◌∷◌, ◌++◌, map, None, is_some, unwrap_or, refl, sym, ap, ap₂, ◌∙◌, subst, bytes_eq, append-nil, append_assoc, arith, true≢false, false_from_ne_true, Kinds, or_else, check_kinds, built_fault, fault_of, walk_fault, settle_fault, defaults_fault, check_fault, entered_fault, given_default_fault, WordPiece, bare, apart, joined, flag, spelled, bare_values, option_values, value_under, HasOnly, ArePlain, IsPlainText, OptionNames, Spelling, alone_id, has_odd, is_odd, line_app, values_of}
use Rattle.std.specs.List.{list_any}
use Rattle.std.proofs.Math.Bool.{or-true}
use Rattle.clap.specs.Walk.{Row, Rule, Text, Walk, all_of, idle, settled, finished, with_default, has_row, rows_after, nothing_held}
use Rattle.clap.specs.Simple.{App, built, entered, matches_of}
use Rattle.clap.specs.Takes.{is_given}
use Rattle.life_args.proofs.Lexing.{IsOptionName}
use Rattle.life_args.proofs.Rules.{AreGood, IsGood, add, filled_alone, filled_flag, filled_option, filled_options, own, rules, same}
use Rattle.life_args.proofs.Steps.{leaf, settles, stand}
use Rattle.life_args.proofs.Walks.{ends, none_first, none_second, pieces_of, put, reads, use_of}

-- ---- the values of rows

abbrev pub values_in : Text → List Row → List Text
values_in id rows = unwrap_or (all_of id rows) []

apart_names : (a b : Text) → (a ≡ b → ⊥) → bytes_eq a b ≡ false
apart_names a b other = false_from_ne_true (bytes_eq a b) (λ e. other (same a b e))

pub differ : (a b : Text) → bytes_eq a b ≡ false → a ≡ b → ⊥
differ a b e is = true≢false (sym (own b) ∙ ap (λ (x : Text). bytes_eq x b) (sym is) ∙ e)

-- a value is added to those of its id
values_added : (id name value : Text) (rows : List Row) → values_in id (add name value rows) ≡ values_in id rows ++ cond (bytes_eq name id) (value ∷ []) []
values_added id name value [] = go (bytes_eq name id) refl
  where
    go : (t : Bool) → bytes_eq name id ≡ t → values_in id (add name value []) ≡ cond (bytes_eq name id) (value ∷ []) []
    go true e = rw e refl
    go false e = rw e refl
values_added id name value (r ∷ rows) = go (bytes_eq r.id name) (bytes_eq r.id id) refl refl (values_added id name value rows)
  where
    go : (a b : Bool) → bytes_eq r.id name ≡ a → bytes_eq r.id id ≡ b → values_in id (add name value rows) ≡ values_in id rows ++ cond (bytes_eq name id) (value ∷ []) []
        → values_in id (add name value (r ∷ rows)) ≡ values_in id (r ∷ rows) ++ cond (bytes_eq name id) (value ∷ []) []
    go true true d e rest = let its : bytes_eq name id ≡ true = ap (λ (n : Text). bytes_eq n id) (sym (same r.id name d)) ∙ e in rw (d, e, its) refl
    go true false d e rest = let its : bytes_eq name id ≡ false = ap (λ (n : Text). bytes_eq n id) (sym (same r.id name d)) ∙ e in rw (d, e, its) (sym (append-nil (values_in id rows)))
    go false true d e rest =
        let its : bytes_eq name id ≡ false = apart_names name id (λ is. differ r.id name d (same r.id id e ∙ sym is)) in
        rw (d, e, its) (sym (append-nil r.values))
    go false false d e rest = rw (d, e) rest

-- the values that pieces give an id
abbrev picked : Text → List WordPiece → List Text
picked id [] = []
picked id (piece ∷ pieces) = value_under id (use_of piece).0 (use_of piece).1 (picked id pieces)

one_more : (t : Bool) (value : Text) (values more : List Text) → (values ++ cond t (value ∷ []) []) ++ more ≡ values ++ cond t (value ∷ more) more
one_more true value values more = append_assoc values (value ∷ []) more
one_more false value values more = ap (λ vs. vs ++ more) (append-nil values)

put_values : (id : Text) (pieces : List WordPiece) (rows : List Row) → values_in id (put pieces rows) ≡ values_in id rows ++ picked id pieces
put_values id [] rows = sym (append-nil (values_in id rows))
put_values id (piece ∷ pieces) rows =
    let u = use_of piece in
    put_values id pieces (add u.0 u.1 rows) ∙ ap (λ vs. vs ++ picked id pieces) (values_added id u.0 u.1 rows)
    ∙ one_more (bytes_eq u.0 id) u.1 (values_in id rows) (picked id pieces)

passed : (id name value : Text) (values : List Text) → bytes_eq name id ≡ false → value_under id name value values ≡ values
passed id name value values other = ap (λ (t : Bool). cond t (value ∷ values) values) other

option_picked : (name : Text) → bytes_eq alone_id name ≡ false → (pieces : List WordPiece) → picked name pieces ≡ option_values name pieces
option_picked name other [] = refl
option_picked name other (bare value ∷ pieces) = passed name alone_id value (picked name pieces) other ∙ option_picked name other pieces
option_picked name other (apart one value ∷ pieces) = ap (value_under name one value) (option_picked name other pieces)
option_picked name other (joined one value ∷ pieces) = ap (value_under name one value) (option_picked name other pieces)
option_picked name other (flag one ∷ pieces) = ap (value_under name one []) (option_picked name other pieces)

-- ---- no argument has a default, and none must be given

same_either : (t : Bool) (rows : List Row) → cond t rows rows ≡ rows
same_either true rows = refl
same_either false rows = refl

no_flag_defaults : (flags : List Text) (rows : List Row) → fold with_default rows (map filled_flag flags) ≡ rows
no_flag_defaults [] rows = refl
no_flag_defaults (name ∷ flags) rows = ap (λ (r : List Row). fold with_default r (map filled_flag flags)) (same_either (has_row name rows) rows) ∙ no_flag_defaults flags rows

no_defaults : (valued flags : List Text) (rows : List Row) → fold with_default rows (map filled_option valued ++ map filled_flag flags) ≡ rows
no_defaults [] flags rows = no_flag_defaults flags rows
no_defaults (name ∷ valued) flags rows =
    ap (λ (r : List Row). fold with_default r (map filled_option valued ++ map filled_flag flags)) (same_either (has_row name rows) rows) ∙ no_defaults valued flags rows

pub all_finished : (names : OptionNames) (rows : List Row) → fold with_default rows (rules names) ≡ rows
all_finished names rows =
    ap (λ (r : List Row). fold with_default r (map filled_option names.valued ++ map filled_flag names.flags)) (same_either (has_row alone_id rows) rows)
    ∙ no_defaults names.valued names.flags rows

default_fits : (argument : Rule) (t : Bool) → cond (t || true) [] (given_default_fault argument []) ≡ []
default_fits argument t = ap (λ (b : Bool). cond b [] (given_default_fault argument [])) (or-true t)

flag_defaults_fit : (flags : List Text) (rows : List Row) → defaults_fault rows (map filled_flag flags) ≡ []
unfolding defaults_fault
flag_defaults_fit [] rows = refl
flag_defaults_fit (name ∷ flags) rows = ap₂ or_else (default_fits (filled_flag name) (has_row name rows)) (flag_defaults_fit flags (with_default rows (filled_flag name)))

defaults_fit : (valued flags : List Text) (rows : List Row) → defaults_fault rows (map filled_option valued ++ map filled_flag flags) ≡ []
unfolding defaults_fault
defaults_fit [] flags rows = flag_defaults_fit flags rows
defaults_fit (name ∷ valued) flags rows = ap₂ or_else (default_fits (filled_option name) (has_row name rows)) (defaults_fit valued flags (with_default rows (filled_option name)))

all_fit : (names : OptionNames) (rows : List Row) → defaults_fault rows (rules names) ≡ []
unfolding defaults_fault
all_fit names rows = ap₂ or_else (default_fits filled_alone (has_row alone_id rows)) (defaults_fit names.valued names.flags (with_default rows filled_alone))

no_flag_required : (flags : List Text) (rows : List Row) → list_any (λ (a : Rule). a.required && not (is_given a.id rows)) (map filled_flag flags) ≡ false
no_flag_required [] rows = refl
no_flag_required (name ∷ flags) rows = no_flag_required flags rows

none_required : (valued flags : List Text) (rows : List Row)
    → list_any (λ (a : Rule). a.required && not (is_given a.id rows)) (map filled_option valued ++ map filled_flag flags) ≡ false
none_required [] flags rows = no_flag_required flags rows
none_required (name ∷ valued) flags rows = none_required valued flags rows

-- ---- the whole

module _ (names : OptionNames) (good : AreGood names) where
  abbrev app : App
  app = record { top = leaf (rules names); subs = [] }

  built_is : built (line_app names) ≡ app
  built_is = ap (λ (rest : List Rule). record { top = leaf (filled_alone ∷ rest); subs = [] }) (filled_options 2 names.valued names.flags)

  abbrev start : Walk
  start = stand [] None idle

  abbrev level : List Text → Walk → Kinds
  level words w = or_else (walk_fault (leaf (rules names)) [] start words)
      (or_else (entered_fault app w.stopped)
      (or_else (settle_fault (rules names) false w.held)
      (or_else (defaults_fault (settled (rules names) w.held).rows (rules names))
      (check_fault (leaf (rules names)) (finished (rules names) w.held) (is_some (entered app w.stopped))))))

  level_is : (words : List Text) → fault_of (line_app names) words ≡ level words (ends names good start words)
  level_is words = ap (λ (a : App). built_fault a nothing_held words) built_is

  rows_are : (words : List Text) → matches_of (line_app names) words ≡ finished (rules names) (ends names good start words).held
  rows_are words = ap (λ (a : App). rows_after a.top.rules [] words) built_is

  -- the words that are taken are spelled by pieces
  pub taken_spelled : (words : List Text) → has_odd words ≡ false → fault_of (line_app names) words ≡ [] → (pieces : List WordPiece) × Spelling names words pieces
  taken_spelled words even taken =
      let end : Walk = ends names good start words in
      let all : level words end ≡ [] = sym (level_is words) ∙ taken in
      let walk = none_first (walk_fault (leaf (rules names)) [] start words) _ all in
      let settle = none_first (settle_fault (rules names) false end.held) _ (none_second (entered_fault app end.stopped) _ (none_second (walk_fault (leaf (rules names)) [] start words) _ all)) in
      pieces_of names good words even (ap₂ or_else walk settle)

  -- the values that stand alone, and those of each id
  other_id : (name : Text) → IsGood name → bytes_eq name alone_id ≡ false
  other_id name is = apart_names name alone_id (λ same. differ alone_id name is.other (sym same))

  alone_picked : (pieces : List WordPiece) → HasOnly names.valued names.flags pieces → picked alone_id pieces ≡ bare_values pieces
  alone_picked [] only = refl
  alone_picked (bare value ∷ pieces) only = ap (λ vs. value ∷ vs) (alone_picked pieces only)
  alone_picked (apart name value ∷ pieces) only = passed alone_id name value (picked alone_id pieces) (other_id name (good.valued name only.0)) ∙ alone_picked pieces only.1
  alone_picked (joined name value ∷ pieces) only = passed alone_id name value (picked alone_id pieces) (other_id name (good.valued name only.0)) ∙ alone_picked pieces only.1
  alone_picked (flag name ∷ pieces) only = passed alone_id name [] (picked alone_id pieces) (other_id name (good.flags name only.0)) ∙ alone_picked pieces only.1

  all_picked : (pieces : List WordPiece) → HasOnly names.valued names.flags pieces → (id : Text) → picked id pieces ≡ values_of pieces id
  all_picked pieces only id = go (bytes_eq alone_id id) refl
    where
      go : (t : Bool) → bytes_eq alone_id id ≡ t → picked id pieces ≡ values_of pieces id
      go true e = subst (λ (n : Text). picked n pieces ≡ values_of pieces n) (same alone_id id e) (alone_picked pieces only)
      go false e = rw e (option_picked id e pieces)

  -- words that pieces spell are taken, and the values are the pieces'
  pub spelled_taken : (words : List Text) (pieces : List WordPiece) → Spelling names words pieces
      → (fault_of (line_app names) words ≡ []) × ((id : Text) → values_in id (matches_of (line_app names) words) ≡ values_of pieces id)
  spelled_taken words pieces spelling =
      let read = reads names good pieces [] None idle tt tt spelling.only spelling.plain in
      let walk = none_first (walk_fault (leaf (rules names)) [] start (spelled pieces)) _ read.fault in
      let settle : settle_fault (rules names) false (ends names good start (spelled pieces)).held ≡ [] = none_second (walk_fault (leaf (rules names)) [] start (spelled pieces)) _ read.fault in
      let check : check_fault (leaf (rules names)) (finished (rules names) (stand read.before read.last read.waiting).held) false ≡ [] =
      ap (λ (t : Bool). check_kinds false false t) (none_required names.valued names.flags (finished (rules names) (stand read.before read.last read.waiting).held)) in
      let settled_is = subst (λ (w : Walk). settle_fault (rules names) false w.held ≡ []) read.at_end settle in
      let fits = all_fit names (settled (rules names) (stand read.before read.last read.waiting).held).rows in
      let rows : finished (rules names) (stand read.before read.last read.waiting).held ≡ put pieces [] =
      all_finished names (settled (rules names) (stand read.before read.last read.waiting).held).rows
      ∙ ap (λ h. h.rows) (settles names read.before read.last read.is_use) ∙ read.all in
      let spells = spelling.spells in (
        level_is words ∙ ap (λ ws. level ws (ends names good start ws)) spells ∙ ap (level (spelled pieces)) read.at_end ∙ ap₂ or_else walk (ap₂ or_else settled_is (ap₂ or_else fits check)),
        λ id. ap (values_in id) (rows_are words ∙ ap (λ ws. finished (rules names) (ends names good start ws).held) spells ∙ ap (λ (w : Walk). finished (rules names) w.held) read.at_end ∙ rows)
            ∙ put_values id pieces [] ∙ all_picked pieces spelling.only id,
      )

  -- no word of pieces is odd
  plain_even : (word : Text) → IsPlainText word → is_odd word ≡ false
  plain_even [] plain = refl
  plain_even (x ∷ xs) plain = rw plain refl

  named_even : (name rest : Text) → IsOptionName name → is_odd (45 ∷ 45 ∷ (name ++ rest)) ≡ false
  named_even [] rest is = absurd (omega (arith, is.some))
  named_even (x ∷ xs) rest is = refl

  even : (pieces : List WordPiece) → HasOnly names.valued names.flags pieces → ArePlain pieces → has_odd (spelled pieces) ≡ false
  even [] only plain = refl
  even (bare value ∷ pieces) only plain = ap₂ ◌||◌ (plain_even value plain.0) (even pieces only plain.1)
  even (apart name value ∷ pieces) only plain =
      ap₂ ◌||◌ (subst (λ (n : Text). is_odd (45 ∷ 45 ∷ n) ≡ false) (append-nil name) (named_even name [] (good.valued name only.0).named))
      (ap₂ ◌||◌ (plain_even value plain.0) (even pieces only.1 plain.1))
  even (joined name value ∷ pieces) only plain = ap₂ ◌||◌ (named_even name (61 ∷ value) (good.valued name only.0).named) (even pieces only.1 plain)
  even (flag name ∷ pieces) only plain =
      ap₂ ◌||◌ (subst (λ (n : Text). is_odd (45 ∷ 45 ∷ n) ≡ false) (append-nil name) (named_even name [] (good.flags name only.0).named)) (even pieces only.1 plain)

  pub spelled_even : (words : List Text) (pieces : List WordPiece) → Spelling names words pieces → has_odd words ≡ false
  spelled_even words pieces spelling = ap has_odd spelling.spells ∙ even pieces spelling.only spelling.plain

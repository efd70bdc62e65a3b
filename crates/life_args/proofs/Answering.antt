-- What readers answer
use Rattle.life_args.proofs.Names.{◌≡◌, ◌≤◌, ◌∙◌, arith, drop, get_or, length, map, string_bytes, String, take, lit<, ◌-◌, ap₂, IfOk, IfErr, IfSome, ok_or, ℤ, ap, sym, refl, subst, true, false, List, [], ◌∷◌, Option, Some, None, unwrap_or, Result, Ok, Err, IsErrAnd, true≢false, Text, found_of, raw_values-rows, WordsFault, Mode, Verb, WordPiece, AreWords, AskFor, AskForNothing, IsFaultOf, NameAMode, mode_names, GivesAsked, IsLine, ReadsLine, Spelling, TakesWords, has_odd, line_app, values_of, AsksFor, IsLone, SaysMode, options_of, verb_of, verb_word, IsDay, IsDayText, IsDayValue, IsMeasureBy, Measure}
use Rattle.memory_requests.specs.Evidence.{a_refusal}
use Rattle.std.specs.Global.{Global}
use Rattle.std.specs.List.{Contains}
use Rattle.std.proofs.lemmas.List.{take_all}
use Rattle.clap.specs.declared.parser.matches.ArgMatches.{ArgMatches}
use Rattle.memory_requests.specs.declared.words.NoMatches.TheVariants as not
use Rattle.life_args.specs.declared.fault.WordsFault.TheVariants.{Usage, NoMemory}
use Rattle.life_args.specs.declared.verb.Verb.TheVariants as verb
use Rattle.life_args.proofs.Lines.{spelled_even, spelled_taken, taken_spelled, values_in}
use Rattle.life_args.proofs.Asking.{asked, asking, good, same_verb}
use Rattle.life_args.proofs.Once.{same_mode}
use Rattle.life_args.proofs.Texts.{day_of_text, text_of_day}

-- ---- a fault

-- a fault that is handed on answers what nothing fits
pub handed_on : {T : Type 0} (r : Result T WordsFault) (fault : WordsFault) (Q : T → Type 0) → IsErrAnd r (λ y. y ≡ fault) → (fault ≡ Usage → (answer : T) → Q answer → ⊥) → GivesAsked Q r
handed_on (Ok answer) fault Q is none = absurd is
handed_on (Err Usage) fault Q is none = none (sym is)
handed_on (Err (NoMemory lack)) fault Q is none = tt

-- and so is the fault of a part that each result has
pub refused : {T U : Type 0} (P : T → Type 0) (Q : U → Type 0) (r : Result U WordsFault) (fault : WordsFault) → IsErrAnd r (λ y. y ≡ fault) → GivesAsked P (Err fault)
    → ((answer : U) → Q answer → (part : T) × P part) → GivesAsked Q r
refused P Q r Usage is none part = handed_on r Usage Q is (λ usage answer asked. let of_it = part answer asked in none of_it.0 of_it.1)
refused P Q r (NoMemory lack) is none part = handed_on r (NoMemory a_refusal) Q is (λ usage. cc)

-- ---- a measure

-- each flag stands once at most
pub a_measure : (means deficiencies : List Text) (one : Measure) → IsMeasureBy means deficiencies one
    → ((mean : Option Text) × IsLone means mean) × ((deficiency : Option Text) × IsLone deficiencies deficiency)
a_measure [] [] one asks = ((None, refl), (None, refl))
a_measure (mean ∷ []) [] one asks = ((Some mean, refl), (None, refl))
a_measure [] (deficiency ∷ []) one asks = ((None, refl), (Some deficiency, refl))
a_measure means deficiencies one asks = absurd asks

-- ---- a day

pub day_given : (text bytes : Text) (found : Option ℤ) (r : Result ℤ WordsFault) → bytes ≡ text → IfSome found (λ day. IsDay day × IsDayText bytes day)
    → ((day : ℤ) → IsDay day → IsDayText bytes day → found ≡ Some day) → r ≡ ok_or found Usage → GivesAsked (IsDayValue text) r
day_given text bytes found r same some exact is = subst (λ x. GivesAsked (IsDayValue text) x) (sym is) (subst (λ t. GivesAsked (IsDayValue t) (ok_or found Usage)) same (go found some exact))
  where
    go : (o : Option ℤ) → IfSome o (λ day. IsDay day × IsDayText bytes day) → ((day : ℤ) → IsDay day → IsDayText bytes day → o ≡ Some day) → GivesAsked (IsDayValue bytes) (ok_or o Usage)
    go None some exact = λ day said. let clash : ◌≡◌ {A = Option ℤ} None (Some day) = exact day said.0 (text_of_day bytes day said.0 said.1) in cc
    go (Some day) some exact = (some.0, day_of_text bytes day some.0 some.1)

-- ---- a line

pub line_read : (verb : Verb) (words : List Text) (line : ArgMatches) → has_odd words ≡ false → TakesWords (line_app (options_of verb)) words (Ok line) → IsLine (options_of verb) words line
line_read verb words line even takes =
    let found = taken_spelled (options_of verb) (good verb) words even takes.0 in
    record {
      pieces = found.0;
      spelling = found.1;
      every = λ others spelling id. ap (λ o. unwrap_or o []) (raw_values-rows (found_of line) id) ∙ ap (values_in id) takes.1 ∙ (spelled_taken (options_of verb) (good verb) words others spelling).1 id;
    }

pub usage_refused : (verb : Verb) (words : List Text) → TakesWords (line_app (options_of verb)) words (Err not.Usage) → (pieces : List WordPiece) → Spelling (options_of verb) words pieces → ⊥
usage_refused verb words takes pieces spelling = takes (spelled_taken (options_of verb) (good verb) words pieces spelling).0

pub odd_refused : (verb : Verb) (words : List Text) → has_odd words ≡ true → (pieces : List WordPiece) → Spelling (options_of verb) words pieces → ⊥
odd_refused verb words odd pieces spelling = true≢false (sym odd ∙ spelled_even (options_of verb) (good verb) words pieces spelling)

-- ---- a mode

-- arguments ask for a mode of their verb, whose pieces spell them
pub asked_of : (verb : Verb) (words : List Text) (one : Mode) → AreWords (verb_word verb ∷ words) one
    → (verb_of one ≡ verb) × ((pieces : List WordPiece) × Spelling (options_of verb) words pieces × SaysMode (values_of pieces) one)
asked_of verb words one are =
    let asks = asked (verb_word verb) words one are in
    let same = same_verb (verb_of one) verb (sym asks.0) in
    (same, (asks.1.pieces, subst (λ v. Spelling (options_of v) words asks.1.pieces) same asks.1.spelling, asks.1.says))

module _ (verb : Verb) (words : List Text) where
  -- pieces that spell the words say what the arguments ask for
  pub asked_by : (pieces : List WordPiece) → Spelling (options_of verb) words pieces → (one : Mode) → AreWords (verb_word verb ∷ words) one
      → (verb_of one ≡ verb) × SaysMode (values_of pieces) one
  asked_by pieces spelling one are =
      let asks = asked_of verb words one are in
      let these = (spelled_taken (options_of verb) (good verb) words pieces spelling).1 in
      let those = (spelled_taken (options_of verb) (good verb) words asks.1.0 asks.1.1).1 in
      (asks.0, subst (λ (v : Text → List Text). SaysMode v one) (λ i id. (sym (those id) ∙ these id) i) asks.1.2)

  -- and the arguments ask for what they say
  pub asking_by : (pieces : List WordPiece) → Spelling (options_of verb) words pieces → (one : Mode) → verb_of one ≡ verb → SaysMode (values_of pieces) one
      → AreWords (verb_word verb ∷ words) one
  asking_by pieces spelling one is says =
      let of_its = subst (λ v. Spelling (options_of v) words pieces) (sym is) spelling in
      subst (λ v. AreWords (verb_word v ∷ words) one) is (asking words one (record { pieces = pieces; spelling = of_its; says = says }))

  pub line_refused : (r : Result Mode WordsFault) (fault : WordsFault) → IsErrAnd r (λ y. y ≡ fault) → ReadsLine (options_of verb) words (Err fault) → GivesAsked (AreWords (verb_word verb ∷ words)) r
  line_refused r fault is reads = handed_on r fault (AreWords (verb_word verb ∷ words)) is (λ usage one are.
      let asks = asked_of verb words one are in
      (subst (λ f. ReadsLine (options_of verb) words (Err f)) usage reads) asks.1.0 asks.1.1)

  pub mode_given : (line : ArgMatches) (r : Result Mode WordsFault) → IsLine (options_of verb) words line → GivesAsked (AsksFor verb (found_of line)) r → GivesAsked (AreWords (verb_word verb ∷ words)) r
  mode_given line (Ok one) read gives =
      asking_by read.pieces read.spelling one gives.is (subst (λ (v : Text → List Text). SaysMode v one) (λ i id. read.every read.pieces read.spelling id i) gives.says)
  mode_given line (Err Usage) read gives = λ one are.
      let asks = asked_of verb words one are in
      gives one (record { is = asks.0; says = subst (λ (v : Text → List Text). SaysMode v one) (λ i id. (sym (read.every asks.1.0 asks.1.1 id)) i) asks.1.2 })
  mode_given line (Err (NoMemory lack)) read gives = tt

-- ---- the words

-- the arguments after the first
abbrev pub behind : List (String Global) → List (String Global)
behind words = take (length words - 1) (drop 1 words)

-- the words are the verb's and those after it
pub split_words : (words : List (String Global)) (first : String Global) (word : Text) → 1 ≤ length words → first ≡ get_or words 0 first → string_bytes first ≡ word
    → word ∷ map string_bytes (behind words) ≡ map string_bytes words
split_words [] first word some is same = absurd (omega arith)
split_words (one ∷ words) first word some is same =
    let all : take (length (one ∷ words) - 1) words ≡ words = take_all (length (one ∷ words) - 1) words (omega arith) in
    ap₂ (λ (w : Text) (ws : List (String Global)). w ∷ map string_bytes ws) (sym same ∙ ap string_bytes is) all

-- each verb is the name of a mode
pub names_a_mode : (verb : Verb) → Contains mode_names (verb_word verb)
names_a_mode verb.Run = (0, lit< tt, refl)
names_a_mode verb.Value = (1, lit< tt, refl)
names_a_mode verb.Project = (2, lit< tt, refl)
names_a_mode verb.State = (3, lit< tt, refl)
names_a_mode verb.Checkpoint = (4, lit< tt, refl)
names_a_mode verb.Generate = (5, lit< tt, refl)
names_a_mode verb.Load = (6, lit< tt, refl)

pub answered : (words : List (String Global)) (verb : Verb) (rest : List Text) (r : Result Mode WordsFault) → verb_word verb ∷ rest ≡ map string_bytes words
    → GivesAsked (AreWords (verb_word verb ∷ rest)) r → IfOk r (AskFor words) × IfErr r (IsFaultOf words)
answered words verb rest r same gives = go r (subst (λ ws. GivesAsked (AreWords ws) r) same gives)
  where
    go : (x : Result Mode WordsFault) → GivesAsked (AreWords (map string_bytes words)) x → IfOk x (AskFor words) × IfErr x (IsFaultOf words)
    go (Ok one) h = (h, tt)
    go (Err Usage) h = (tt, h)
    go (Err (NoMemory lack)) h = (tt, subst NameAMode same (names_a_mode verb))

pub unnamed : (words : List (String Global)) (first : String Global) → 1 ≤ length words → first ≡ get_or words 0 first → ((verb : Verb) → string_bytes first ≡ verb_word verb → ⊥) → AskForNothing words
unnamed words first some is none one asks =
    let there = split_words words first (string_bytes first) some is refl in
    none (verb_of one) (asked (string_bytes first) (map string_bytes (behind words)) one (subst (λ ws. AreWords ws one) (sym there) asks)).0

-- ---- arguments ask once

pub ask_once : (words : List Text) (one two : Mode) → AreWords words one → AreWords words two → one ≡ two
ask_once [] one two first second = absurd first
ask_once (word ∷ words) one two first second =
    let is = (asked word words one first).0 in
    let a = asked_of (verb_of one) words one (subst (λ w. AreWords (w ∷ words) one) is first) in
    let b = asked_by (verb_of one) words a.1.0 a.1.1 two (subst (λ w. AreWords (w ∷ words) two) is second) in
    same_mode (values_of a.1.0) one two (sym b.0) a.1.2 b.1

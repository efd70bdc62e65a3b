-- What worked words are stated by.
use Rattle.life_args.proofs.Names.{◌≡◌, ◌≤◌, ◌∙◌, ℕ, List, [], ◌∷◌, refl, sym, subst, inl, inr, codes, decimal, lit≤, arith, pos, ℤ, decimal_injective, ints, IsName, IsNameByte, date_of, month_of, days_before_year, days_of_months, day_text, Mode, Verb, Run, WordPiece, spelled, HasOnly, IsDayValue, AreWords, ArePlain, line_app, values_of, AreDayAndYears, SaysMode, options_of, verb_of, verb_word, fault_of, Kinds}
use Rattle.std.proofs.lemmas.List.Elements.{All-from_recursion}
use Rattle.std.specs.Fmt.{digits}
use Rattle.life_args.specs.Worked.{Ask, AskNothing}
use Rattle.life_args.proofs.Answering.{asked_of}
use Rattle.life_args.proofs.Asking.{asked, asking, good}
use Rattle.life_args.proofs.Either.{said_of}
use Rattle.life_args.proofs.Lines.{differ, spelled_taken}
use Rattle.life_args.proofs.Saying.{Said}
use Rattle.clap.specs.declared.error.kind.ErrorKind.{ErrorKind}

pub asks : (typed : List (List ℕ)) (mode : Mode) → AreWords typed mode → Ask typed mode
asks typed mode are words same = subst (λ ws. AreWords ws mode) (sym same) are

pub asks_nothing : (typed : List (List ℕ)) → ((mode : Mode) → AreWords typed mode → ⊥) → AskNothing typed
asks_nothing typed none words same mode are = none mode (subst (λ ws. AreWords ws mode) same are)

-- pieces say a mode
pub told : (mode : Mode) (pieces : List WordPiece) → HasOnly (options_of (verb_of mode)).valued (options_of (verb_of mode)).flags pieces → ArePlain pieces
    → SaysMode (values_of pieces) mode → Ask (verb_word (verb_of mode) ∷ spelled pieces) mode
told mode pieces only plain says =
    asks _ mode (asking (spelled pieces) mode (record { pieces = pieces; spelling = record { spells = refl; only = only; plain = plain }; says = says }))

-- pieces say none of a verb's modes
pub untold : (verb : Verb) (pieces : List WordPiece) → HasOnly (options_of verb).valued (options_of verb).flags pieces → ArePlain pieces
    → (Said verb (values_of pieces) → ⊥) → AskNothing (verb_word verb ∷ spelled pieces)
untold verb pieces only plain none =
    asks_nothing _ (λ mode are. none (said_of verb (spelled pieces) pieces (record { spells = refl; only = only; plain = plain }) mode are))

-- `clap` refuses the words
pub refused : (verb : Verb) (words : List (List ℕ)) (kind : ErrorKind) (more : Kinds) → fault_of (line_app (options_of verb)) words ≡ kind ∷ more → AskNothing (verb_word verb ∷ words)
refused verb words kind more faulty = asks_nothing _ (λ mode are.
    let asks = asked_of verb words mode are in
    let none = (spelled_taken (options_of verb) (good verb) words asks.1.0 asks.1.1).0 in
    cc)

-- no command has this name
pub unnamed : (word : List ℕ) (words : List (List ℕ)) → ((verb : Verb) → word ≡ verb_word verb → ⊥) → AskNothing (word ∷ words)
unnamed word words none = asks_nothing _ (λ mode are. none (verb_of mode) (asked word words mode are).0)

pub no_help : (verb : Verb) → codes "help" ≡ verb_word verb → ⊥
no_help Run e = differ (codes "help") (codes "run") refl e
no_help verb e = differ (codes "help") (verb_word verb) refl e

pub new_year : IsDayValue (codes "2021-01-01") (pos 18628)
unfolding digits day_text date_of month_of days_before_year days_of_months
new_year = ((omega (arith, ints), omega (arith, ints)), refl)

pub b2_name : IsName (codes "b2.csv")
b2_name = record {
  some = lit≤ tt;
  short = lit≤ tt;
  first = inr (lit≤ tt, lit≤ tt);
  each = All-from_recursion IsNameByte (codes "b2.csv") (
    inl (inr (lit≤ tt, lit≤ tt)),
    (
      inl (inl (inl (lit≤ tt, lit≤ tt))),
      (
        inr (inl refl),
        (inl (inr (lit≤ tt, lit≤ tt)), (inl (inr (lit≤ tt, lit≤ tt)), (inl (inr (lit≤ tt, lit≤ tt)), tt))),
      ),
    ),
  );
}

-- after the day stand years that are too few, or too many
pub other_years : (text : List ℕ) (n : ℕ) → text ≡ decimal n → n ≤ 132 → (1 ≤ n → n ≤ 131 → ⊥) → (on : ℤ) (years : ℕ) → AreDayAndYears (codes "2021-01-01" ∷ text ∷ []) on years → ⊥
other_years text n is small out on years are =
    let lists : codes "2021-01-01" ∷ text ∷ [] ≡ are.0 ∷ decimal years ∷ [] = are.1 in
    let texts : text ≡ decimal years = cc in
    let same : n ≡ years = decimal_injective n years (omega (arith, small)) (omega (arith, are.3.1)) (sym is ∙ texts) in
    out (omega (arith, same, are.3.0)) (omega (arith, same, are.3.1))

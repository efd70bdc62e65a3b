-- Values say one mode at most
use Rattle.std.specs.Prelude.{pos}
use Rattle.life_args.proofs.Names.{◌≡◌, ℕ, ◌≤◌, cond, Bool, true, false, List, [], ◌∷◌, Option, Some, None, refl, sym, ap, ◌∙◌, subst, arith, lit≤, ℤ, codes, decimal, decimal_injective, At, Now, Position, Measure, IsDay, days_in_month, is_leap_year, day_number, day_text, Mode, AtMostOne, IsPositionOr, AreWorkersOr, IsBasisOr, IsMeasureBy, IsPolicyOr, alone_id, AreDraws, SaysMode, verb_of}
use Rattle.std.specs.Prelude.{◌==◌, ◌||◌}
use Rattle.clap.specs.Walk.{Text}
use Rattle.life_dates.proofs.TextLemmas.{read_exact}
use Rattle.life_args.specs.declared.mode.Mode.TheVariants as mode
use Rattle.life_args.proofs.Texts.{text_of_day}

-- ---- a day's text is of one day

chosen_at_most : (test : Bool) (x y : ℕ) → x ≤ 31 → y ≤ 31 → cond test x y ≤ 31
chosen_at_most true x y h k = h
chosen_at_most false x y h k = k

days_at_most : (year month : ℕ) → days_in_month (pos year) month ≤ 31
days_at_most year month =
    let february = chosen_at_most (is_leap_year (pos year)) 29 28 (lit≤ tt) (lit≤ tt) in
    let short : Bool = (month == 4) || (month == 6) || (month == 9) || (month == 11) in
    let other = chosen_at_most short 30 31 (lit≤ tt) (lit≤ tt) in
    chosen_at_most (month == 2) (cond (is_leap_year (pos year)) 29 28) (cond short 30 31) february other

same_day : (a b : ℤ) → IsDay a → IsDay b → day_text a ≡ day_text b → a ≡ b
same_day a b a_in b_in e =
    let P : ℤ → Type 0 = λ day. IsDay day in
    let first = text_of_day (day_text a) a a_in refl in
    let other = text_of_day (day_text a) b b_in e in
    let found = read_exact (Some (day_number first.date)) first.date (day_text a) first.is_date.year_high (omega (arith, first.is_date.month_high)) (omega (arith, first.is_date.day_high, days_at_most first.date.year first.date.month))
    ((first.is_date, subst P (sym first.is_number) a_in), refl) first.is_text b b_in other in
    let same : day_number first.date ≡ b = cc in
    sym first.is_number ∙ same

-- ---- what a value says is one

one_position : (o : Option Text) (a b : At) → IsPositionOr o a → IsPositionOr o b → a ≡ b
one_position None a b first other = first ∙ sym other
one_position (Some value) Now b first other = absurd first
one_position (Some value) (Position m) Now first other = absurd other
one_position (Some value) (Position m) (Position n) first other = ap Position (decimal_injective m n (omega (arith, first.0)) (omega (arith, other.0)) (sym first.1 ∙ other.1))

one_crew : (o : Option Text) (a b : ℕ) → AreWorkersOr o a → AreWorkersOr o b → a ≡ b
one_crew None a b first other = first ∙ sym other
one_crew (Some value) a b first other = decimal_injective a b (omega (arith, first.1)) (omega (arith, other.1)) (sym first.2 ∙ other.2)

one_basis : (o : Option Text) (a b : List ℕ) → IsBasisOr o a → IsBasisOr o b → a ≡ b
one_basis None a b first other = first ∙ sym other
one_basis (Some value) a b first other = first.1 ∙ sym other.1

one_policy : (o : Option Text) (a b : Option ℕ) → IsPolicyOr o a → IsPolicyOr o b → a ≡ b
one_policy None a b first other = first ∙ sym other
one_policy (Some value) None b first other = absurd first
one_policy (Some value) (Some m) None first other = absurd other
one_policy (Some value) (Some m) (Some n) first other = ap Some (decimal_injective m n (omega (arith, first.0.1)) (omega (arith, other.0.1)) (sym first.1 ∙ other.1))

one_measure : (means deficiencies : List Text) (a b : Measure) → IsMeasureBy means deficiencies a → IsMeasureBy means deficiencies b → a ≡ b
one_measure [] [] a b first other = first ∙ sym other
one_measure (mean ∷ []) [] a b first other = first ∙ sym other
one_measure [] (deficiency ∷ []) a b first other = first ∙ sym other
one_measure means deficiencies a b first other = absurd first

one_lone : {T : Type 0} (values : List Text) (P : Option Text → T → Type 0) (a b : T) → ((o : Option Text) → P o a → P o b → a ≡ b)
    → AtMostOne values (λ given. P given a) → AtMostOne values (λ given. P given b) → a ≡ b
one_lone [] P a b one first other = one None first other
one_lone (value ∷ []) P a b one first other = one (Some value) first other
one_lone (value ∷ more ∷ values) P a b one first other = absurd first

three_draws : (a b c x y z : ℕ) (rest more : List Text) → decimal a ∷ decimal b ∷ decimal c ∷ rest ≡ decimal x ∷ decimal y ∷ decimal z ∷ more
    → AreDraws a b c → AreDraws x y z → (a ≡ x) × (b ≡ y) × (c ≡ z) × (rest ≡ more)
three_draws a b c x y z rest more e first other =
    let da : decimal a ≡ decimal x = cc in
    let db : decimal b ≡ decimal y = cc in
    let dc : decimal c ≡ decimal z = cc in
    let rests : rest ≡ more = cc in (
      decimal_injective a x (omega (arith, first.0)) (omega (arith, other.0)) da,
      decimal_injective b y (omega (arith, first.1.1)) (omega (arith, other.1.1)) db,
      decimal_injective c z (omega (arith, first.2.1)) (omega (arith, other.2.1)) dc,
      rests,
    )

-- ---- the modes

pub same_mode : (values : Text → List Text) (one two : Mode) → verb_of one ≡ verb_of two → SaysMode values one → SaysMode values two → one ≡ two
same_mode values (mode.Run a) (mode.Run b) e first other = ap mode.Run (one_lone (values (codes "basis")) IsBasisOr a b (λ o. one_basis o a b) first.1 other.1)
same_mode values (mode.Value on position workers basis measure) (mode.Value day place crew file kind) e first other =
    let lists : first.0.0 ∷ [] ≡ other.0.0 ∷ [] = sym first.0.1 ∙ other.0.1 in
    let value : first.0.0 ≡ other.0.0 = cc in
    let days = same_day on day first.0.2.0 other.0.2.0 (sym first.0.2.1 ∙ value ∙ other.0.2.1) in
    let places = one_lone (values (codes "at")) IsPositionOr position place (λ o. one_position o position place) first.1 other.1 in
    let crews = one_lone (values (codes "workers")) AreWorkersOr workers crew (λ o. one_crew o workers crew) first.2 other.2 in
    let files = one_lone (values (codes "basis")) IsBasisOr basis file (λ o. one_basis o basis file) first.3 other.3 in
    let kinds = one_measure (values (codes "mean")) (values (codes "deficiency")) measure kind first.4 other.4 in
    λ i. mode.Value (days i) (places i) (crews i) (files i) (kinds i)
same_mode values (mode.Project on years workers basis) (mode.Project day many crew file) e first other =
    let lists : first.0.0 ∷ decimal years ∷ [] ≡ other.0.0 ∷ decimal many ∷ [] = sym first.0.1 ∙ other.0.1 in
    let value : first.0.0 ≡ other.0.0 = cc in
    let text : decimal years ≡ decimal many = cc in
    let days = same_day on day first.0.2.0 other.0.2.0 (sym first.0.2.1 ∙ value ∙ other.0.2.1) in
    let counts = decimal_injective years many (omega (arith, first.0.3.1)) (omega (arith, other.0.3.1)) text in
    let crews = one_lone (values (codes "workers")) AreWorkersOr workers crew (λ o. one_crew o workers crew) first.1 other.1 in
    let files = one_lone (values (codes "basis")) IsBasisOr basis file (λ o. one_basis o basis file) first.2 other.2 in
    λ i. mode.Project (days i) (counts i) (crews i) (files i)
same_mode values (mode.State a) (mode.State b) e first other = ap mode.State (one_lone (values alone_id) IsPolicyOr a b (λ o. one_policy o a b) first other)
same_mode values mode.Checkpoint mode.Checkpoint e first other = refl
same_mode values (mode.Generate a b c) (mode.Generate x y z) e first other =
    let all = three_draws a b c x y z [] [] (sym first.0 ∙ other.0) first.1 other.1 in
    λ i. mode.Generate (all.0 i) (all.1 i) (all.2 i)
same_mode values (mode.Load a b c d) (mode.Load x y z w) e first other =
    let all = three_draws a b c x y z (decimal d ∷ []) (decimal w ∷ []) (sym first.0 ∙ other.0) first.1 other.1 in
    let rests : decimal d ∷ [] ≡ decimal w ∷ [] = all.3 in
    let text : decimal d ≡ decimal w = cc in
    let crews = decimal_injective d w (omega (arith, first.2.1)) (omega (arith, other.2.1)) text in
    λ i. mode.Load (all.0 i) (all.1 i) (all.2 i) (crews i)
same_mode values one two e first other = absurd (cc)

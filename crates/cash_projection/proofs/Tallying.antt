-- Tallies of lists.
use Rattle.cash_projection.proofs.Names.{◌≡◌, ℕ, zero, suc, ◌+◌, ◌*◌, ◌^◌, ◌<◌, ◌≤◌, refl, ap, ap₂, sym, subst, ◌∙◌, arith, List, [], ◌∷◌, ◌++◌, length, take, get_or, ℤ, le_trans, le_of_mul-le-mul_right, length-append, length-take-le, AllByRecursion, AllZip, take_more, most_commands, Policy, ONE, UNIT, down, up, pair_of, Pair, Dated, alive, dying, Prospect, IsSmall, premium_due, death_due, maturity_due, sum_by, premium_by, death_by, maturity_by, rounded_year, IsProspect, IsCashOf, AreSums, HasAdded, HasGained, TakesOneMore, HasCounted, AreBothSums, IsRoomy, IsSized, IsTally, IsTallyOf, sum_at, Sums, Tally, Year}
use Rattle.std.proofs.lemmas.List.FromFn.{fill_by_all}
use Rattle.std.proofs.lemmas.List.Sums.{sum_by-cons, sum_by-append}
use Rattle.cash_projection.proofs.Survivors.{power_pos}
use Rattle.cash_projection.proofs.Totals.{IsPart, list_part, premium_part, death_part, maturity_part, year_encloses}

abbrev pub no_year : Year
no_year = record { premium = pair_of 0 0; death = pair_of 0 0; maturity = pair_of 0 0 }

pub total_append : (f : Prospect → ℕ) (ps qs : List Prospect) → sum_by f (ps ++ qs) ≡ sum_by f ps + sum_by f qs
total_append f ps qs = sum_by-append f ps qs

total_one : (f : Prospect → ℕ) (p : Prospect) → sum_by f (p ∷ []) ≡ f p
total_one f p = omega arith

total_more : (f : Prospect → ℕ) (ps : List Prospect) (p : Prospect) → sum_by f (ps ++ p ∷ []) ≡ sum_by f ps + f p
total_more f ps p = total_append f ps (p ∷ []) ∙ ap (λ n. sum_by f ps + n) (total_one f p)

all_append : (ps qs : List Prospect) → AllByRecursion IsSmall ps → AllByRecursion IsSmall qs → AllByRecursion IsSmall (ps ++ qs)
all_append [] qs front back = back
all_append (p ∷ ps) qs front back = (front.0, all_append ps qs front.1 back)

zip_append : (P : Policy → Prospect → Type 0) (xs vs : List Policy) (ys ws : List Prospect) → AllZip P xs ys → AllZip P vs ws → AllZip P (xs ++ vs) (ys ++ ws)
zip_append P [] vs [] ws front back = back
zip_append P [] vs (y ∷ ys) ws front back = absurd front
zip_append P (x ∷ xs) vs [] ws front back = absurd front
zip_append P (x ∷ xs) vs (y ∷ ys) ws front back = (front.0, zip_append P xs vs ys ws front.1 back)

words_few : (ps : List Prospect) → AllByRecursion IsSmall ps → sum_by (λ (p : Prospect). p.words) ps ≤ length ps
words_few [] small = omega arith
words_few (p ∷ ps) small = omega (arith, sum_by-cons (λ (q : Prospect). q.words) p ps, small.0.words, words_few ps small.1)

-- no policy
pub none_tallied : (basis : List Dated) (on : ℤ) (years : ℕ) (tally : Tally) → tally.years ≡ years → tally.policies ≡ 0 → tally.unvalued ≡ 0
    → length tally.premium.sums ≡ 131 → length tally.death.sums ≡ 131 → length tally.maturity.sums ≡ 131
    → ((j : ℕ) → ((sum_at tally.premium.sums j).lo ≡ 0) × ((sum_at tally.premium.sums j).hi ≡ 0))
    → ((j : ℕ) → ((sum_at tally.death.sums j).lo ≡ 0) × ((sum_at tally.death.sums j).hi ≡ 0))
    → ((j : ℕ) → ((sum_at tally.maturity.sums j).lo ≡ 0) × ((sum_at tally.maturity.sums j).hi ≡ 0))
    → IsTallyOf basis on years [] tally
none_tallied basis on years tally same policies unvalued a b d premium death maturity = record {
  prospects = [];
  each = tt;
  tallied = record {
    same = same;
    policies = policies;
    unvalued = unvalued;
    premium = record { places = a; lo = λ j below. (premium j).0; hi = λ j below. (premium j).1 };
    death = record { places = b; lo = λ j below. (death j).0; hi = λ j below. (death j).1 };
    maturity = record { places = d; lo = λ j below. (maturity j).0; hi = λ j below. (maturity j).1 };
    small = tt;
  };
}

-- one more policy
one_more_summed : (years : ℕ) (part : (ℕ → ℕ → ℕ) → ℕ → Prospect → ℕ) (ps : List Prospect) (p : Prospect) (old new : List Sums)
    → AreSums years part ps old → HasGained years part p old new → AreSums years part (ps ++ p ∷ []) new
one_more_summed years part ps p old new sums gained = record {
  places = gained.places;
  lo = λ j below. gained.lo j below ∙ ap (λ n. n + part down j p) (sums.lo j below) ∙ sym (total_more (part down j) ps p);
  hi = λ j below. gained.hi j below ∙ ap (λ n. n + part up j p) (sums.hi j below) ∙ sym (total_more (part up j) ps p);
}

pub one_more_tallied : (basis : List Dated) (on : ℤ) (years : ℕ) (policies : List Policy) (i : ℕ) (none : Policy) (old new : Tally) → i < length policies
    → IsTallyOf basis on years (take i policies) old → HasCounted basis on (get_or policies i none) old new
    → IsTallyOf basis on years (take (i + 1) policies) new
one_more_tallied basis on years policies i none old new below was taken =
    let policy = get_or policies i none in
    let ps = was.prospects in
    let p = taken.prospect in
    let old_is = was.tallied in
    let added : HasAdded years p old new = subst (λ n. HasAdded n p old new) old_is.same taken.added in
    let longer : take i policies ++ policy ∷ [] ≡ take (i + 1) policies = sym (take_more policies i none below) in
    record {
      prospects = ps ++ p ∷ [];
      each = subst (λ l. AllZip (IsProspect basis on) l (ps ++ p ∷ [])) longer (zip_append (IsProspect basis on) (take i policies) (policy ∷ []) ps (p ∷ []) was.each (taken.is, tt));
      tallied = record {
        same = added.same ∙ old_is.same;
        policies = omega (arith, added.policies, old_is.policies, length-append ps (p ∷ []));
        unvalued = added.unvalued ∙ ap (λ n. n + p.words) old_is.unvalued ∙ sym (total_more (λ (p : Prospect). p.words) ps p);
        premium = one_more_summed years premium_by ps p old.premium.sums new.premium.sums old_is.premium added.premium;
        death = one_more_summed years death_by ps p old.death.sums new.death.sums old_is.death added.death;
        maturity = one_more_summed years maturity_by ps p old.maturity.sums new.maturity.sums old_is.maturity added.maturity;
        small = all_append ps (p ∷ []) old_is.small (taken.small, tt);
      };
    }

-- the sums of at most 4,000,000 policies
roomy : (years : ℕ) (part : (ℕ → ℕ → ℕ) → ℕ → Prospect → ℕ) (exact : ℕ → Prospect → ℕ) (den : ℕ → ℕ) (ps : List Prospect) (sums : List Sums) → AreSums years part ps sums
    → AllByRecursion IsSmall ps → years ≤ 131 → length ps ≤ most_commands → ((j : ℕ) → 0 < den j)
    → ((p : Prospect) (j : ℕ) → IsSmall p → j ≤ 131 → IsPart 1 (exact j p) (den j) (part down j p) (part up j p)) → IsRoomy years sums
roomy years part exact den ps sums are small most few positive each = record {
  places = are.places;
  lo = λ j below.
      let p = whole j below in
      let order : sum_by (part down j) ps ≤ sum_by (part up j) ps = le_of_mul-le-mul_right (le_trans p.above p.below) (positive j) in
      omega (arith, are.lo j below, order, p.most);
  hi = λ j below. omega (arith, are.hi j below, (whole j below).most);
}
  where
    whole : (j : ℕ) → j < years → IsPart (length ps) (sum_by (exact j) ps) (den j) (sum_by (part down j) ps) (sum_by (part up j) ps)
    whole j below = list_part (exact j) (part down j) (part up j) (den j) ps small (λ p s. each p j s (omega arith))

pub sized : (years : ℕ) (ps : List Prospect) (tally : Tally) → IsTally years ps tally → years ≤ 131 → tally.policies ≤ most_commands → IsSized tally
sized years ps tally is most few =
    let count : length ps ≤ most_commands = omega (arith, is.policies) in
    record {
      policies = few;
      unvalued = omega (arith, is.unvalued, is.policies, words_few ps is.small);
      years = omega (arith, is.same);
      premium = rw is.same (roomy years premium_by (λ j p. premium_due p j * alive p.rates j) (λ j. ONE ^ j) ps tally.premium.sums is.premium is.small most count
          power_pos premium_part);
      death = rw is.same (roomy years death_by (λ j p. death_due p j * dying p.rates j) (λ j. ONE ^ (j + 1)) ps tally.death.sums is.death is.small most count
          (λ j. power_pos (j + 1)) death_part);
      maturity = rw is.same (roomy years maturity_by (λ j p. maturity_due p j * alive p.rates (j + 1)) (λ j. ONE ^ (j + 1)) ps tally.maturity.sums is.maturity is.small
          most count (λ j. power_pos (j + 1)) maturity_part);
    }

pub zip_length : (P : Policy → Prospect → Type 0) (xs : List Policy) (ys : List Prospect) → AllZip P xs ys → length ys ≡ length xs
zip_length P [] [] all = refl
zip_length P [] (y ∷ ys) all = absurd all
zip_length P (x ∷ xs) [] all = absurd all
zip_length P (x ∷ xs) (y ∷ ys) all = omega (arith, zip_length P xs ys all.1)

-- the tally of a list is of as many policies, and there is room for them
pub tally_sized : (basis : List Dated) (on : ℤ) (years : ℕ) (policies : List Policy) (tally : Tally) → IsTallyOf basis on years policies tally → years ≤ 131
    → length policies ≤ most_commands → IsSized tally × (tally.policies ≡ length policies)
tally_sized basis on years policies tally is most few =
    let many : tally.policies ≡ length policies = is.tallied.policies ∙ zip_length (IsProspect basis on) policies is.prospects is.each in
    (sized years is.prospects tally is.tallied most (omega (arith, many)), many)

-- before each of so many there is room for one more
pub room_for_one : (basis : List Dated) (on : ℤ) (years : ℕ) (policies : List Policy) (i : ℕ) (tally : Tally) → IsTallyOf basis on years (take i policies) tally
    → years ≤ 131 → length policies ≤ most_commands → i < length policies → TakesOneMore tally
room_for_one basis on years policies i tally is most few below =
    let count : length (take i policies) ≡ i = length-take-le i policies (omega arith) in
    let sized = tally_sized basis on years (take i policies) tally is most (omega arith) in
    (sized.0, omega (arith, sized.1))

-- two lists
joined_sums : (years : ℕ) (part : (ℕ → ℕ → ℕ) → ℕ → Prospect → ℕ) (ps qs : List Prospect) (ours theirs new : List Sums) → AreSums years part ps ours → AreSums years part qs theirs
    → AreBothSums years ours theirs new → AreSums years part (ps ++ qs) new
joined_sums years part ps qs ours theirs new a b joined = record {
  places = joined.places;
  lo = λ j below. joined.lo j below ∙ ap₂ ◌+◌ (a.lo j below) (b.lo j below) ∙ sym (total_append (part down j) ps qs);
  hi = λ j below. joined.hi j below ∙ ap₂ ◌+◌ (a.hi j below) (b.hi j below) ∙ sym (total_append (part up j) ps qs);
}

pub both_tallied : (basis : List Dated) (on : ℤ) (years : ℕ) (xs ys : List Policy) (ours theirs new : Tally) → IsTallyOf basis on years xs ours → IsTallyOf basis on years ys theirs
    → new.years ≡ ours.years → new.policies ≡ ours.policies + theirs.policies → new.unvalued ≡ ours.unvalued + theirs.unvalued
    → AreBothSums years ours.premium.sums theirs.premium.sums new.premium.sums → AreBothSums years ours.death.sums theirs.death.sums new.death.sums
    → AreBothSums years ours.maturity.sums theirs.maturity.sums new.maturity.sums → IsTallyOf basis on years (xs ++ ys) new
both_tallied basis on years xs ys ours theirs new a b same policies unvalued premium death maturity =
    let ps = a.prospects in
    let qs = b.prospects in
    record {
      prospects = ps ++ qs;
      each = zip_append (IsProspect basis on) xs ys ps qs a.each b.each;
      tallied = record {
        same = same ∙ a.tallied.same;
        policies = omega (arith, policies, a.tallied.policies, b.tallied.policies, length-append ps qs);
        unvalued = unvalued ∙ ap₂ ◌+◌ a.tallied.unvalued b.tallied.unvalued ∙ sym (total_append (λ (p : Prospect). p.words) ps qs);
        premium = joined_sums years premium_by ps qs _ _ _ a.tallied.premium b.tallied.premium premium;
        death = joined_sums years death_by ps qs _ _ _ a.tallied.death b.tallied.death death;
        maturity = joined_sums years maturity_by ps qs _ _ _ a.tallied.maturity b.tallied.maturity maturity;
        small = all_append ps qs a.tallied.small b.tallied.small;
      };
    }

-- the bounds of a year as the tally has them
abbrev pub year_in : Tally → ℕ → Year
year_in tally j = record {
  premium = pair_of (down (sum_at tally.premium.sums j).lo UNIT) (up (sum_at tally.premium.sums j).hi UNIT);
  death = pair_of (down (sum_at tally.death.sums j).lo UNIT) (up (sum_at tally.death.sums j).hi UNIT);
  maturity = pair_of (down (sum_at tally.maturity.sums j).lo UNIT) (up (sum_at tally.maturity.sums j).hi UNIT);
}

year_rounded : (years : ℕ) (ps : List Prospect) (tally : Tally) → IsTally years ps tally → (j : ℕ) → j < years → year_in tally j ≡ rounded_year ps j
year_rounded years ps tally is j below =
    let a = is.premium.lo j below in
    let b = is.premium.hi j below in
    let d = is.death.lo j below in
    let e = is.death.hi j below in
    let f = is.maturity.lo j below in
    let g = is.maturity.hi j below in
    rw (a, b, d, e, f, g) refl

pub cash_told : (basis : List Dated) (on : ℤ) (policies : List Policy) (tally : Tally) (years : List Year) → tally.years ≤ 131
    → length years ≡ tally.years → ((j : ℕ) → j < tally.years → get_or years j no_year ≡ year_in tally j)
    → IsTallyOf basis on tally.years policies tally → IsCashOf basis on policies tally.years tally.unvalued years
cash_told basis on policies tally years most many each is =
    let ps = is.prospects in
    record {
      prospects = ps;
      each = is.each;
      words = is.tallied.unvalued;
      rounded = fill_by_all (rounded_year ps) years tally.years no_year many
          (λ j below. each j below ∙ year_rounded tally.years ps tally is.tallied j below);
      exact = λ j below. year_encloses ps j is.tallied.small (omega arith);
    }

-- one more year is reported
pushed_at : (xs : List Year) (y d : Year) (f : ℕ → Year) → ((k : ℕ) → k < length xs → get_or xs k d ≡ f k) → y ≡ f (length xs)
    → (k : ℕ) → k < length xs + 1 → get_or (xs ++ y ∷ []) k d ≡ f k
pushed_at [] y d f each is zero below = is
pushed_at [] y d f each is (suc k) below = absurd (omega (arith, below))
pushed_at (x ∷ xs) y d f each is zero below = each 0 (omega arith)
pushed_at (x ∷ xs) y d f each is (suc k) below = pushed_at xs y d (λ i. f (suc i)) (λ i within. each (suc i) (omega arith)) is k (omega (arith, below))

pub one_more_told : (tally : Tally) (old new : List Year) (j : ℕ) (year : Year) → length old ≡ j → ((k : ℕ) → k < j → get_or old k no_year ≡ year_in tally k)
    → year ≡ year_in tally j → new ≡ old ++ year ∷ [] → (length new ≡ j + 1) × ((k : ℕ) → k < j + 1 → get_or new k no_year ≡ year_in tally k)
one_more_told tally old new j year many each is pushed =
    rw (pushed, ← many) (
      length-append old (year ∷ []),
      pushed_at old year no_year (year_in tally) (λ k below. each k (omega arith)) (is ∙ ap (year_in tally) (sym many)),
    )

abbrev year_of : Pair → Pair → Pair → Year
year_of a b d = record { premium = a; death = b; maturity = d }

pub year_is : (tally : Tally) (j : ℕ) (year : Year)
    → year.premium ≡ pair_of (down (sum_at tally.premium.sums j).lo UNIT) (up (sum_at tally.premium.sums j).hi UNIT)
    → year.death ≡ pair_of (down (sum_at tally.death.sums j).lo UNIT) (up (sum_at tally.death.sums j).hi UNIT)
    → year.maturity ≡ pair_of (down (sum_at tally.maturity.sums j).lo UNIT) (up (sum_at tally.maturity.sums j).hi UNIT)
    → year ≡ year_in tally j
year_is tally j year premium death maturity =
    ap (λ p. year_of p year.death year.maturity) premium ∙ ap (λ p. year_of (year_in tally j).premium p year.maturity) death
    ∙ ap (λ p. year_of (year_in tally j).premium (year_in tally j).death p) maturity

pub all_told : (tally : Tally) (told years : List Year) (j : ℕ) → years ≡ told → length told ≡ j → j ≡ tally.years
    → ((k : ℕ) → k < j → get_or told k no_year ≡ year_in tally k)
    → (length years ≡ tally.years) × ((k : ℕ) → k < tally.years → get_or years k no_year ≡ year_in tally k)
all_told tally told years j is many all each = rw is (many ∙ all, λ k below. each k (omega (arith, below, all)))

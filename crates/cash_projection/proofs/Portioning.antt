-- The portions of a list of policies, and their tallies.
use Rattle.cash_projection.proofs.Names.{◌≡◌, ℕ, zero, suc, ◌+◌, ◌<◌, ◌≤◌, arith, List, [], ◌∷◌, ◌++◌, length, take, get_or, refl, sym, ap, ◌∙◌, subst, append-nil, append_assoc, length-append, inl, inr, ℤ, AllByRecursion, AllZip, take_all, most_commands, Policy, Dated, AreValues, MayGive, TakeAll, IsOfIssue, AreTallies, AreTalliesOfFew, GivesTally, IsProjectorFor, TakesPortion, policies_of_portions, IsSized, IsTallyOf, Tally}
use Rattle.std.proofs.lemmas.Slice.Zip.{AllZip-long}
use Rattle.parallel_value.specs.Pieces.{AddsBehind}
use Rattle.parallel_value.proofs.PieceSteps.{all_back, all_front, all_more, zip_more}
use Rattle.cash_projection.specs.declared.portions.Portion.{Portion}
use Rattle.cash_projection.specs.declared.projector.Projector.{Projector}
use Rattle.cash_projection.proofs.Tallying.{tally_sized}

policies_append : (xs ys : List Portion) → policies_of_portions (xs ++ ys) ≡ policies_of_portions xs ++ policies_of_portions ys
policies_append [] ys = refl
policies_append (x ∷ xs) ys =
    ap (λ (rest : List Policy). x.policies.now ++ rest) (policies_append xs ys)
    ∙ sym (append_assoc x.policies.now (policies_of_portions xs) (policies_of_portions ys))

pub policies_behind : (xs : List Portion) (y : Portion) → policies_of_portions (xs ++ y ∷ []) ≡ policies_of_portions xs ++ y.policies.now
policies_behind xs y =
    policies_append xs (y ∷ []) ∙ ap (λ (rest : List Policy). policies_of_portions xs ++ rest) (append-nil y.policies.now)

-- a portion more is cut off
pub portion_cut : (policies : List Policy) (cut more : List Portion) (portion : Portion) (rest back : List Policy) → policies_of_portions cut ++ rest ≡ policies
    → more ≡ cut ++ portion ∷ [] → portion.policies.now ++ back ≡ rest → policies_of_portions more ++ back ≡ policies
portion_cut policies cut more portion rest back whole longer parts =
    ap (λ (ps : List Portion). policies_of_portions ps ++ back) longer
    ∙ ap (λ (ps : List Policy). ps ++ back) (policies_behind cut portion)
    ∙ append_assoc (policies_of_portions cut) portion.policies.now back
    ∙ ap (λ (ps : List Policy). policies_of_portions cut ++ ps) parts
    ∙ whole

-- the workers take each portion
module _ (basis : List Dated) (on : ℤ) (years : ℕ) where
  one_takes : (projector : Projector) → IsProjectorFor basis on years projector → (portions : List Portion)
      → AllByRecursion IsOfIssue (policies_of_portions portions) → length (policies_of_portions portions) ≤ most_commands → AllByRecursion (TakesPortion projector) portions
  one_takes projector is [] sound few = tt
  one_takes projector is (portion ∷ more) sound few = (
    is.takes portion (all_front IsOfIssue portion.policies.now (policies_of_portions more) sound)
        (omega (arith, few, length-append portion.policies.now (policies_of_portions more))),
    one_takes projector is more (all_back IsOfIssue portion.policies.now (policies_of_portions more) sound)
        (omega (arith, few, length-append portion.policies.now (policies_of_portions more))),
  )

  pub all_take : (projectors : List Projector) (portions : List Portion) → AllByRecursion (IsProjectorFor basis on years) projectors
      → AllByRecursion IsOfIssue (policies_of_portions portions) → length (policies_of_portions portions) ≤ most_commands → TakeAll TakesPortion projectors portions
  all_take projectors portions each sound few =
      all_more (IsProjectorFor basis on years) (λ (projector : Projector). AllByRecursion (TakesPortion projector) portions) projectors
      (λ projector is. one_takes projector is portions sound few) each

-- and give its tally
module _ (basis : List Dated) (on : ℤ) (years : ℕ) where
  may_tally : (projectors : List Projector) → AllByRecursion (IsProjectorFor basis on years) projectors → (portion : Portion) (tally : Tally)
      → MayGive GivesTally projectors portion tally → IsTallyOf basis on years portion.policies.now tally
  may_tally [] each portion tally may = absurd may
  may_tally (projector ∷ more) each portion tally (inl given) = each.0.by portion tally given
  may_tally (projector ∷ more) each portion tally (inr may) = may_tally more each.1 portion tally may

  all_tallied : (projectors : List Projector) (portions : List Portion) (tallies : List Tally) → AllByRecursion (IsProjectorFor basis on years) projectors
      → AreValues GivesTally projectors portions tallies → AreTallies basis on years portions tallies
  all_tallied projectors portions tallies each values =
      zip_more (MayGive GivesTally projectors) (λ (portion : Portion) (tally : Tally). IsTallyOf basis on years portion.policies.now tally)
      portions tallies (may_tally projectors each) values

  -- if the tallies were added to none
  pub all_added : (projectors : List Projector) (portions : List Portion) (old new : List Tally) → AllByRecursion (IsProjectorFor basis on years) projectors
      → old ≡ [] → AddsBehind (AreValues GivesTally projectors portions) old new → AreTallies basis on years portions new
  all_added projectors portions old new each none adds =
      subst (AreTallies basis on years portions) (sym (adds.1 ∙ ap (λ (l : List Tally). l ++ adds.0) none)) (all_tallied projectors portions adds.0 each adds.2)

zip_next : {X Y : Type 0} (P : X → Y → Type 0) (xs : List X) (ys : List Y) (i : ℕ) (none : Y) → AllZip P xs ys → i < length ys
    → (x : X) × (take (i + 1) xs ≡ take i xs ++ x ∷ []) × P x (get_or ys i none)
zip_next P [] [] i none all below = absurd (omega (arith, below))
zip_next P [] (y ∷ ys) i none all below = absurd all
zip_next P (x ∷ xs) [] i none all below = absurd all
zip_next P (x ∷ xs) (y ∷ ys) zero none all below = (x, refl, all.0)
zip_next P (x ∷ xs) (y ∷ ys) (suc i) none all below =
    let next = zip_next P xs ys i none all.1 (omega (arith, below)) in
    let more : suc i + 1 ≡ suc (i + 1) = omega arith in
    (next.0, ap (λ k. take k (x ∷ xs)) more ∙ ap (λ rest. x ∷ rest) next.1, next.2)

front_few : (portions : List Portion) (i : ℕ) → length (policies_of_portions (take i portions)) ≤ length (policies_of_portions portions)
front_few [] zero = omega arith
front_few [] (suc i) = omega arith
front_few (portion ∷ more) zero = omega arith
front_few (portion ∷ more) (suc i) =
    omega (arith, front_few more i, length-append portion.policies.now (policies_of_portions (take i more)), length-append portion.policies.now (policies_of_portions more))

-- the tallies before this one, joined
abbrev pub AreJoined : ℕ → List Tally → ℕ → Tally → Type 0
AreJoined years tallies i all = (basis : List Dated) (on : ℤ) (portions : List Portion) → AreTallies basis on years portions tallies
    → IsTallyOf basis on years (policies_of_portions (take i portions)) all

pub record CanJoin (all tally : Tally) : Type 0 where
  pub years : (all.years ≡ tally.years) × (all.years ≤ 131)
  pub few : all.policies + tally.policies ≤ most_commands
  pub ours : IsSized all
  pub theirs : IsSized tally

pub can_join : (years : ℕ) (tallies : List Tally) (i : ℕ) (none all : Tally) → years ≤ 131 → AreTalliesOfFew years tallies → AreJoined years tallies i all
    → i < length tallies → CanJoin all (get_or tallies i none)
can_join years tallies i none all most of so_far below =
    let each = of.each in
    let next = zip_next (λ (portion : Portion) (tally : Tally). IsTallyOf of.basis of.on years portion.policies.now tally) of.portions tallies i none each below in
    let front = so_far of.basis of.on of.portions each in
    let longer : length (policies_of_portions (take (i + 1) of.portions)) ≡ length (policies_of_portions (take i of.portions)) + length next.0.policies.now =
    ap (λ (ps : List Portion). length (policies_of_portions ps)) next.1 ∙ ap (λ (ps : List Policy). length ps) (policies_behind (take i of.portions) next.0)
    ∙ length-append (policies_of_portions (take i of.portions)) next.0.policies.now in
    let ours = tally_sized of.basis of.on years (policies_of_portions (take i of.portions)) all front most (omega (arith, longer, front_few of.portions (i + 1), of.few)) in
    let theirs = tally_sized of.basis of.on years next.0.policies.now (get_or tallies i none) next.2 most (omega (arith, longer, front_few of.portions (i + 1), of.few)) in
    record {
      years = (front.tallied.same ∙ sym next.2.tallied.same, omega (arith, front.tallied.same, most));
      few = omega (arith, ours.1, theirs.1, longer, front_few of.portions (i + 1), of.few);
      ours = ours.0;
      theirs = theirs.0;
    }

-- and with it
pub one_more_joined : (years : ℕ) (tallies : List Tally) (i : ℕ) (none old new : Tally) → AreJoined years tallies i old → i < length tallies
    → ((basis : List Dated) (on : ℤ) (ps qs : List Policy) → IsTallyOf basis on old.years ps old → IsTallyOf basis on old.years qs (get_or tallies i none)
    → IsTallyOf basis on old.years (ps ++ qs) new)
    → AreJoined years tallies (i + 1) new
one_more_joined years tallies i none old new so_far below joins = λ basis on portions each.
    let next = zip_next (λ (portion : Portion) (tally : Tally). IsTallyOf basis on years portion.policies.now tally) portions tallies i none each below in
    let front = so_far basis on portions each in
    let same : old.years ≡ years = front.tallied.same in
    let longer : policies_of_portions (take (i + 1) portions) ≡ policies_of_portions (take i portions) ++ next.0.policies.now =
    ap policies_of_portions next.1 ∙ policies_behind (take i portions) next.0 in
    subst (λ ps. IsTallyOf basis on years ps new) (sym longer)
    (subst (λ n. IsTallyOf basis on n (policies_of_portions (take i portions) ++ next.0.policies.now) new) same
    (joins basis on (policies_of_portions (take i portions)) next.0.policies.now
    (subst (λ n. IsTallyOf basis on n (policies_of_portions (take i portions)) old) (sym same) front)
    (subst (λ n. IsTallyOf basis on n next.0.policies.now (get_or tallies i none)) (sym same) next.2)))

-- all are joined
pub all_joined : (years : ℕ) (tallies : List Tally) (i : ℕ) (all : Tally) → AreJoined years tallies i all → length tallies ≤ i
    → (basis : List Dated) (on : ℤ) (portions : List Portion) → AreTallies basis on years portions tallies → IsTallyOf basis on years (policies_of_portions portions) all
all_joined years tallies i all so_far enough basis on portions each =
    let many = AllZip-long (λ (portion : Portion) (tally : Tally). IsTallyOf basis on years portion.policies.now tally) portions tallies each in
    subst (λ (ps : List Portion). IsTallyOf basis on years (policies_of_portions ps) all) (take_all i portions (omega (arith, many, enough)))
    (so_far basis on portions each)

pub all_behind : {A : Type 0} (P : A → Type 0) (xs : List A) (y : A) → AllByRecursion P xs → P y → AllByRecursion P (xs ++ y ∷ [])
all_behind P [] y all last = (last, tt)
all_behind P (x ∷ xs) y all last = (all.0, all_behind P xs y all.1 last)

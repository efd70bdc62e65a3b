-- The rows of drawn policies are of valid commands, and of the lanes to which they are dealt out
use Rattle.load_maker.proofs.Names.{◌≡◌, ℕ, zero, suc, ◌+◌, ◌*◌, ◌%◌, ◌≤◌, ◌<◌, List, [], ◌∷◌, ◌++◌, length, refl, arith, length-append, AllByRecursion, drawn_below, state_after, plan_drawn, policy_drawn, policy_of_draws, renewed, years_drawn, ClerkLine, IsValidPosting, generated_rows, policy_rows}
use Rattle.std.proofs.lemmas.Int.{ints}
use Rattle.policy_types.specs.declared.command.Plan.{Plan}
use Rattle.policy_types.specs.declared.command.Plan.TheVariants.{Term, Whole, Endowment, Limited}
use Rattle.policy_types.specs.Valid.{AreYears, IsIssue}
use Rattle.load_maker.specs.declared.generator.Drawn.{Drawn}

years_right : (plan : Plan) (age draw : ℕ) → age < 80 → draw < 20 → AreYears plan age (years_drawn plan draw)
years_right Term age draw young few = (omega arith, omega arith)
years_right Whole age draw young few = refl
years_right Endowment age draw young few = (omega arith, omega arith)
years_right Limited age draw young few = (omega arith, omega arith)

-- a policy that can be issued
abbrev IsRight : ℕ → Drawn → Type 0
IsRight id p = IsIssue id p.issued p.plan p.age p.years p.amount p.premium

right_draws : (id for_plan for_age for_years for_amount for_day : ℕ) → 1 ≤ id → id ≤ 100000
    → for_age < 60 → for_years < 20 → for_amount < 1000 → for_day < 3650
    → IsRight id (policy_of_draws for_plan for_age for_years for_amount for_day)
right_draws id for_plan for_age for_years for_amount for_day first last age years amount day = record {
  id_in = (omega arith, omega arith);
  day_in = (omega (arith, ints), omega (arith, ints));
  age_in = omega arith;
  years_in = years_right (plan_drawn for_plan) (20 + for_age) for_years (omega arith) years;
  amount_in = (omega arith, omega arith);
  premium_in = (omega arith, omega arith);
}

below : (bound x : ℕ) → 0 < bound → drawn_below bound x < bound
below bound x some = omega arith

right_policy : (id x : ℕ) → 1 ≤ id → id ≤ 100000 → IsRight id (policy_drawn x)
unfolding policy_drawn
right_policy id x first last =
    let first_number = renewed x in
    let second = renewed first_number in
    let third = renewed second in
    let fourth = renewed third in
    let fifth = renewed fourth in
    right_draws id (drawn_below 4 first_number) (drawn_below 60 second) (drawn_below 20 third)
    (drawn_below 1000 fourth) (drawn_below 3650 fifth) first last
    (below 60 second (omega arith)) (below 20 third (omega arith)) (below 1000 fourth (omega arith)) (below 3650 fifth (omega arith))

-- a row of a lane, with a valid command that names a policy
pub record IsRowFor (lanes : ℕ) (row : ClerkLine) : Type 0 where
  pub first : 1 ≤ row.clerk
  pub last : row.clerk ≤ lanes
  pub valid : IsValidPosting row.line

pub all_and : {A : Type 0} (P : A → Type 0) (xs ys : List A) → AllByRecursion P xs → AllByRecursion P ys → AllByRecursion P (xs ++ ys)
all_and P [] ys all also = also
all_and P (x ∷ xs) ys all also = (all.0, all_and P xs ys all.1 also)

right_rows : (lanes lane id : ℕ) (p : Drawn) → 1 ≤ lane → lane ≤ lanes → IsRight id p → AllByRecursion (IsRowFor lanes) (policy_rows lane id p)
right_rows lanes lane id p first last right = (
  record { first = first; last = last; valid = right },
  (record { first = first; last = last; valid = (right.id_in, right.day_in, right.premium_in) }, tt),
)

pub rows_right : (seed lanes n : ℕ) → 1 ≤ lanes → n ≤ 100000 → AllByRecursion (IsRowFor lanes) (generated_rows seed lanes n)
unfolding generated_rows
rows_right seed lanes zero some few = tt
rows_right seed lanes (suc n) some few =
    all_and (IsRowFor lanes) (generated_rows seed lanes n) (policy_rows (1 + n % lanes) (suc n) (policy_drawn (state_after seed n)))
    (rows_right seed lanes n some (omega arith))
    (right_rows lanes (1 + n % lanes) (suc n) (policy_drawn (state_after seed n)) (omega arith) (omega arith)
    (right_policy (suc n) (state_after seed n) (omega arith) few))

-- two for each policy
pub rows_counted : (seed lanes n : ℕ) → length (generated_rows seed lanes n) ≡ 2 * n
unfolding generated_rows
rows_counted seed lanes zero = refl
rows_counted seed lanes (suc n) =
    let before = rows_counted seed lanes n in
    let both = length-append (generated_rows seed lanes n) (policy_rows (1 + n % lanes) (suc n) (policy_drawn (state_after seed n))) in
    omega (arith, before, both)

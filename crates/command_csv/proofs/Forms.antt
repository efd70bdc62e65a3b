-- Where the fields of a row leave a form
use Rattle.command_csv.proofs.Names.{◌≡◌, ◌≢◌, ℕ, suc, List, [], ◌∷◌, take, refl, ap, sym, ◌∙◌, subst, arith, lit≤, ℤ, pos, decimal, ⊤, decimal_injective, ints, Plan, Term, Whole, Endowment, Limited, IsId, IsCommandDay, IsAmount, IsReinstatement, IsIssueAge, AreYears, day_text, cents_text, LineFields, Kind, At, Now, at_text, plan_word, IsClerk, IsPosition, AreWorkers, Took, Missed, StopsIn, left_of, Ends, Then, Amount, Reinstatement, PolicyAndDay, YearsOn, AgeOn, PlanOn, WorkersOn, PositionOn, KindMayStandBehind, KindForm, RowForm, kind_spelling, form_of, StopsAfter}
use Rattle.command_csv.specs.declared.kind.Kind.TheVariants.{Issue, Premium, Alter, Lapse, Reinstate, Claim, Settle, Mature, PaidUp, Upgrade, Value, Trim}
use Rattle.command_csv.proofs.Words.{plan_word_injective, kind_word_injective}

-- what may follow one value may follow another of the same text
abbrev pub Carries : {X : Type 0} → (X → Type 0) → (X → List ℕ) → (X → List (List ℕ) → Type 0) → X → Type 0
Carries {X} Fits text_of More x = (y : X) → Fits y → text_of x ≡ text_of y → (rest : List (List ℕ)) → More y rest → More x rest

-- the first field fits, and so many after it
pub goes_on : {X : Type 0} (Fits : X → Type 0) (text_of : X → List ℕ) (More : X → List (List ℕ) → Type 0) (x : X) (left : List (List ℕ)) (n : ℕ)
    → Fits x → Carries Fits text_of More x → StopsAfter (More x) left n → StopsAfter (Then Fits text_of More) (text_of x ∷ left) (suc n)
goes_on Fits text_of More x left n fits carry h = record {
  before = record {
    whole = text_of x ∷ h.before.whole;
    right = record { value = x; fits = fits; rest = h.before.whole; spelled = refl; more = h.before.right };
    same = ap (λ rest. text_of x ∷ rest) h.before.same;
  };
  bad = λ other.
      let row = other.right in
      let e : text_of x ∷ take (suc n) left ≡ text_of row.value ∷ take (suc n) row.rest = other.same ∙ ap (take (suc (suc n))) row.spelled in
      let first : text_of x ≡ text_of row.value = cc in
      let rest : take (suc n) left ≡ take (suc n) row.rest = cc in
      h.bad (record { whole = row.rest; right = carry row.value row.fits first row.rest row.more; same = rest });
}

-- the first field doesn't fit
pub stops : {X : Type 0} (Fits : X → Type 0) (text_of : X → List ℕ) (More : X → List (List ℕ) → Type 0) (some left : List (List ℕ))
    → Then Fits text_of More some → ((x : X) → Fits x → take 1 left ≢ text_of x ∷ []) → StopsAfter (Then Fits text_of More) left 0
stops Fits text_of More some left there none = record {
  before = record { whole = some; right = there; same = refl };
  bad = λ other. none other.right.value other.right.fits (other.same ∙ ap (take 1) other.right.spelled);
}

-- something has the form
abbrev pub IsPossible : (List (List ℕ) → Type 0) → Type 0
IsPossible Form = (fields : List (List ℕ)) × Form fields

pub then_is : {X : Type 0} {Fits : X → Type 0} {text_of : X → List ℕ} {More : X → List (List ℕ) → Type 0} {rest : List (List ℕ)} (x : X) → Fits x → More x rest → Then Fits text_of More (text_of x ∷ rest)
then_is {rest} x fits more = record { value = x; fits = fits; rest = rest; spelled = refl; more = more }

then_possible : {X : Type 0} (Fits : X → Type 0) (text_of : X → List ℕ) (More : X → List (List ℕ) → Type 0) (x : X) → Fits x → IsPossible (More x) → IsPossible (Then Fits text_of More)
then_possible Fits text_of More x fits p = (text_of x ∷ p.0, record { value = x; fits = fits; rest = p.0; spelled = refl; more = p.1 })

pub end_possible : IsPossible Ends
end_possible = ([], refl)

pub amount_possible : (More : List (List ℕ) → Type 0) → IsPossible More → IsPossible (Amount More)
amount_possible More p = then_possible IsAmount cents_text (λ cents. More) 1 (lit≤ tt, lit≤ tt) p

pub reinstatement_possible : IsPossible Reinstatement
reinstatement_possible = then_possible IsReinstatement cents_text (λ cents. Ends) 1 (lit≤ tt, lit≤ tt) end_possible

pub day_possible : (More : List (List ℕ) → Type 0) → IsPossible More → IsPossible (Then IsCommandDay day_text (λ day. More))
day_possible More p = then_possible IsCommandDay day_text (λ day. More) (pos 0) (omega (arith, ints), omega (arith, ints)) p

pub policy_possible : (More : List (List ℕ) → Type 0) → IsPossible More → IsPossible (PolicyAndDay More)
policy_possible More p = then_possible IsId decimal (λ id. Then IsCommandDay day_text (λ day. More)) 1 (lit≤ tt, lit≤ tt) (day_possible More p)

two_amounts_possible : IsPossible (Amount (Amount Ends))
two_amounts_possible = amount_possible (Amount Ends) (amount_possible Ends end_possible)

-- years that every age leaves
abbrev years_at : Plan → ℕ
years_at Whole = 0
years_at _ = 2

are_years_at : (plan : Plan) (age : ℕ) → IsIssueAge age → AreYears plan age (years_at plan)
are_years_at Term age h = (lit≤ tt, omega arith)
are_years_at Whole age h = refl
are_years_at Endowment age h = (lit≤ tt, omega arith)
are_years_at Limited age h = (lit≤ tt, omega arith)

pub years_possible : (plan : Plan) (age : ℕ) → IsIssueAge age → IsPossible (YearsOn plan age)
years_possible plan age h = then_possible (AreYears plan age) decimal (λ years. Amount (Amount Ends)) (years_at plan) (are_years_at plan age h) two_amounts_possible

pub age_possible : (plan : Plan) → IsPossible (AgeOn plan)
age_possible plan = then_possible IsIssueAge decimal (λ age. YearsOn plan age) 0 (lit≤ tt) (years_possible plan 0 (lit≤ tt))

pub plan_possible : IsPossible PlanOn
plan_possible = then_possible (λ (plan : Plan). ⊤) plan_word AgeOn Term tt (age_possible Term)

pub workers_possible : IsPossible WorkersOn
workers_possible = then_possible AreWorkers decimal (λ workers. Ends) 1 (lit≤ tt, lit≤ tt) end_possible

pub position_possible : IsPossible PositionOn
position_possible = then_possible IsPosition at_text (λ at. WorkersOn) Now tt workers_possible

pub kind_possible : (kind : Kind) → IsPossible (form_of kind)
kind_possible Issue = policy_possible PlanOn plan_possible
kind_possible Premium = policy_possible (Amount Ends) (amount_possible Ends end_possible)
kind_possible Alter = policy_possible (Amount (Amount Ends)) two_amounts_possible
kind_possible Lapse = policy_possible Ends end_possible
kind_possible Reinstate = policy_possible Reinstatement reinstatement_possible
kind_possible Claim = policy_possible Ends end_possible
kind_possible Settle = policy_possible (Amount Ends) (amount_possible Ends end_possible)
kind_possible Mature = policy_possible Ends end_possible
kind_possible PaidUp = policy_possible (Amount Ends) (amount_possible Ends end_possible)
kind_possible Upgrade = end_possible
kind_possible Value = day_possible PositionOn position_possible
kind_possible Trim = end_possible

pub any_kind_possible : (valued : ℕ) → IsPossible (KindForm valued)
any_kind_possible valued = then_possible (KindMayStandBehind valued) kind_spelling form_of Lapse tt (kind_possible Lapse)

pub row_possible : (valued : ℕ) → IsPossible (RowForm valued)
row_possible valued = then_possible IsClerk decimal (λ clerk. KindForm valued) 1 (lit≤ tt, lit≤ tt) (any_kind_possible valued)

-- if nothing rests on the value, anything carries
pub carries_all : {X : Type 0} (Fits : X → Type 0) (text_of : X → List ℕ) (More : List (List ℕ) → Type 0) (x : X) → Carries Fits text_of (λ y. More) x
carries_all Fits text_of More x = λ y fits same rest more. more

pub kind_carries : (valued : ℕ) (kind : Kind) → Carries (KindMayStandBehind valued) kind_spelling form_of kind
kind_carries valued kind = λ other fits same rest more. subst (λ (k : Kind). form_of k rest) (sym (kind_word_injective kind other same)) more

pub plan_carries : (plan : Plan) → Carries (λ (other : Plan). ⊤) plan_word AgeOn plan
plan_carries plan = λ other fits same rest more. subst (λ (p : Plan). AgeOn p rest) (sym (plan_word_injective plan other same)) more

pub age_carries : (plan : Plan) (age : ℕ) → IsIssueAge age → Carries IsIssueAge decimal (λ age. YearsOn plan age) age
age_carries plan age h = λ other fits same rest more.
    subst (λ (n : ℕ). YearsOn plan n rest) (sym (decimal_injective age other (omega (arith, h)) (omega (arith, fits)) same)) more

-- the same for a row that is read
took : {X : Type 0} (Fits : X → Type 0) (text_of : X → List ℕ) (More : X → List (List ℕ) → Type 0) (x : X) (old mid new : LineFields)
    → Carries Fits text_of More x → Took (Fits x) (text_of x) old mid → StopsIn (More x) mid new → StopsIn (Then Fits text_of More) old new
took Fits text_of More x old mid new carry t h = record {
  fitting = suc h.fitting;
  number = omega (arith, h.number, t.counted);
  bad = subst (λ (left : List (List ℕ)). StopsAfter (Then Fits text_of More) left (suc h.fitting)) (sym t.spelled) (goes_on Fits text_of More x (left_of mid) h.fitting t.fits carry h.bad);
}

missed : {X : Type 0} (Fits : X → Type 0) (text_of : X → List ℕ) (More : X → List (List ℕ) → Type 0) (old new : LineFields)
    → IsPossible (Then Fits text_of More) → Missed Fits text_of old new → StopsIn (Then Fits text_of More) old new
missed Fits text_of More old new p m = record {
  fitting = 0;
  number = omega (arith, m.counted);
  bad = stops Fits text_of More p.0 (left_of old) p.1 m.none;
}

pub took_clerk : {valued clerk : ℕ} {old mid new : LineFields} → Took (IsClerk clerk) (decimal clerk) old mid → StopsIn (KindForm valued) mid new → StopsIn (RowForm valued) old new
took_clerk {valued} {clerk} {old} {mid} {new} t h = took IsClerk decimal (λ n. KindForm valued) clerk old mid new (carries_all IsClerk decimal (KindForm valued) clerk) t h

pub took_kind : {valued : ℕ} (kind : Kind) {old mid new : LineFields} → Took (KindMayStandBehind valued kind) (kind_spelling kind) old mid → StopsIn (form_of kind) mid new → StopsIn (KindForm valued) old new
took_kind {valued} kind {old} {mid} {new} t h = took (KindMayStandBehind valued) kind_spelling form_of kind old mid new (kind_carries valued kind) t h

pub took_position : (at : At) {old mid new : LineFields} → Took (IsPosition at) (at_text at) old mid → StopsIn WorkersOn mid new → StopsIn PositionOn old new
took_position at {old} {mid} {new} t h = took IsPosition at_text (λ a. WorkersOn) at old mid new (carries_all IsPosition at_text WorkersOn at) t h

pub took_day : {More : List (List ℕ) → Type 0} {day : ℤ} {old mid new : LineFields} → Took (IsCommandDay day) (day_text day) old mid → StopsIn More mid new → StopsIn (Then IsCommandDay day_text (λ day. More)) old new
took_day {More} {day} {old} {mid} {new} t h = took IsCommandDay day_text (λ d. More) day old mid new (carries_all IsCommandDay day_text More day) t h

pub took_id : {More : List (List ℕ) → Type 0} {id : ℕ} {old mid new : LineFields} → Took (IsId id) (decimal id) old mid → StopsIn (Then IsCommandDay day_text (λ day. More)) mid new → StopsIn (PolicyAndDay More) old new
took_id {More} {id} {old} {mid} {new} t h =
    took IsId decimal (λ i. Then IsCommandDay day_text (λ day. More)) id old mid new (carries_all IsId decimal (Then IsCommandDay day_text (λ day. More)) id) t h

pub took_plan : (plan : Plan) {old mid new : LineFields} → Took ⊤ (plan_word plan) old mid → StopsIn (AgeOn plan) mid new → StopsIn PlanOn old new
took_plan plan {old} {mid} {new} t h = took (λ (p : Plan). ⊤) plan_word AgeOn plan old mid new (plan_carries plan) t h

pub took_age : (plan : Plan) {age : ℕ} {old mid new : LineFields} → Took (IsIssueAge age) (decimal age) old mid → StopsIn (YearsOn plan age) mid new → StopsIn (AgeOn plan) old new
took_age plan {age} {old} {mid} {new} t h = took IsIssueAge decimal (λ n. YearsOn plan n) age old mid new (age_carries plan age t.fits) t h

pub took_years : (plan : Plan) (age years : ℕ) {old mid new : LineFields} → Took (AreYears plan age years) (decimal years) old mid → StopsIn (Amount (Amount Ends)) mid new → StopsIn (YearsOn plan age) old new
took_years plan age years {old} {mid} {new} t h =
    took (AreYears plan age) decimal (λ y. Amount (Amount Ends)) years old mid new (carries_all (AreYears plan age) decimal (Amount (Amount Ends)) years) t h

pub took_amount : {More : List (List ℕ) → Type 0} {cents : ℕ} {old mid new : LineFields} → Took (IsAmount cents) (cents_text cents) old mid → StopsIn More mid new → StopsIn (Amount More) old new
took_amount {More} {cents} {old} {mid} {new} t h = took IsAmount cents_text (λ c. More) cents old mid new (carries_all IsAmount cents_text More cents) t h

pub no_clerk : {valued : ℕ} {old new : LineFields} → Missed IsClerk decimal old new → StopsIn (RowForm valued) old new
no_clerk {valued} {old} {new} m = missed IsClerk decimal (λ n. KindForm valued) old new (row_possible valued) m

pub no_kind : {valued : ℕ} {old new : LineFields} → Missed (KindMayStandBehind valued) kind_spelling old new → StopsIn (KindForm valued) old new
no_kind {valued} {old} {new} m = missed (KindMayStandBehind valued) kind_spelling form_of old new (any_kind_possible valued) m

pub no_position : {old new : LineFields} → Missed IsPosition at_text old new → StopsIn PositionOn old new
no_position {old} {new} m = missed IsPosition at_text (λ a. WorkersOn) old new position_possible m

pub no_workers : {old new : LineFields} → Missed AreWorkers decimal old new → StopsIn WorkersOn old new
no_workers {old} {new} m = missed AreWorkers decimal (λ w. Ends) old new workers_possible m

pub no_id : {More : List (List ℕ) → Type 0} {old new : LineFields} → IsPossible More → Missed IsId decimal old new → StopsIn (PolicyAndDay More) old new
no_id {More} {old} {new} p m = missed IsId decimal (λ i. Then IsCommandDay day_text (λ day. More)) old new (policy_possible More p) m

pub no_day : {More : List (List ℕ) → Type 0} {old new : LineFields} → IsPossible More → Missed IsCommandDay day_text old new → StopsIn (Then IsCommandDay day_text (λ day. More)) old new
no_day {More} {old} {new} p m = missed IsCommandDay day_text (λ d. More) old new (day_possible More p) m

pub no_plan : {old new : LineFields} → Missed (λ (plan : Plan). ⊤) plan_word old new → StopsIn PlanOn old new
no_plan {old} {new} m = missed (λ (p : Plan). ⊤) plan_word AgeOn old new plan_possible m

pub no_age : (plan : Plan) {old new : LineFields} → Missed IsIssueAge decimal old new → StopsIn (AgeOn plan) old new
no_age plan {old} {new} m = missed IsIssueAge decimal (λ n. YearsOn plan n) old new (age_possible plan) m

pub no_years : (plan : Plan) (age : ℕ) {old new : LineFields} → IsIssueAge age → Missed (AreYears plan age) decimal old new → StopsIn (YearsOn plan age) old new
no_years plan age {old} {new} h m = missed (AreYears plan age) decimal (λ y. Amount (Amount Ends)) old new (years_possible plan age h) m

pub no_amount : {More : List (List ℕ) → Type 0} {old new : LineFields} → IsPossible More → Missed IsAmount cents_text old new → StopsIn (Amount More) old new
no_amount {More} {old} {new} p m = missed IsAmount cents_text (λ c. More) old new (amount_possible More p) m

pub no_reinstatement : {old new : LineFields} → Missed IsReinstatement cents_text old new → StopsIn Reinstatement old new
no_reinstatement {old} {new} m = missed IsReinstatement cents_text (λ c. Ends) old new reinstatement_possible m

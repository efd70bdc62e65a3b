-- Every script is read or has a first fault
use Rattle.command_csv.proofs.Names.{◌≡◌, ◌≢◌, ◌⊎◌, inl, inr, ℕ, suc, zero, ◌+◌, ◌<◌, ◌≤◌, List, [], ◌∷◌, ◌++◌, length, take, get_or, refl, ap, sym, ◌∙◌, subst, arith, ℤ, pos, negsuc, ◌+ℤ◌, ◌-ℤ◌, ◌≤ℤ◌, decimal, ⊤, AllZip, cases_eq, cases_lt, ints, Plan, Term, Whole, Endowment, Limited, At, Now, Position, Lane, IsId, IsCommandDay, IsAmount, IsReinstatement, IsIssueAge, AreYears, day_text, cents_text, Kind, rows_of, ClerkLine, at_text, plan_word, IsClerk, IsPosition, AreWorkers, IsLineRow, IsFirstBadField, IsFirstScriptFault, Reads, all_lines, valuations_in, most_valuations, last_lane, lanes_of, Ends, Then, Amount, Reinstatement, PolicyAndDay, YearsOn, AgeOn, PlanOn, WorkersOn, PositionOn, KindMayStandBehind, KindForm, RowForm, kind_spelling, form_of, StopsAfter}
use Rattle.policy_types.specs.Limits.{most_commands}
use Rattle.command_csv.specs.declared.kind.Kind.TheVariants as kind
use Rattle.command_csv.proofs.Forms.{workers_possible, Carries, IsPossible, carries_all, kind_carries, plan_carries, age_carries, goes_on, stops, end_possible, amount_possible, reinstatement_possible, day_possible, policy_possible, years_possible, age_possible, plan_possible, position_possible, any_kind_possible, row_possible}
use Rattle.command_csv.proofs.Clerks.{valuations-cons, room_counted}
use Rattle.command_csv.proofs.Lines.{of_row_form, bad_field}
use Rattle.command_csv.proofs.Words.{plan_by, plan_again, kind_by, kind_again}

-- the field is the text of something that fits, or of nothing
abbrev Decides : {X : Type 0} → (X → Type 0) → (X → List ℕ) → List ℕ → Type 0
Decides {X} Fits text_of word = ((x : X) × Fits x × (word ≡ text_of x)) ⊎ ((x : X) → Fits x → word ≢ text_of x)

-- the fields have the form, or a first one doesn't fit
abbrev Judges : (List (List ℕ) → Type 0) → List (List ℕ) → Type 0
Judges Form fields = Form fields ⊎ ((n : ℕ) × StopsAfter Form fields n)

same_text : (xs ys : List ℕ) → (xs ≡ ys) ⊎ (xs ≡ ys → ⊥)
same_text [] [] = inl refl
same_text [] (y ∷ ys) = inr (λ e. cc)
same_text (x ∷ xs) [] = inr (λ e. cc)
same_text (x ∷ xs) (y ∷ ys) = elim (cases_eq x y) [
  | inl first ↦ elim (same_text xs ys) [
    | inl rest ↦ inl (cc)
    | inr differ ↦ inr (λ e. let rest : xs ≡ ys = cc in differ rest)
  ]
  | inr differ ↦ inr (λ e. let first : x ≡ y = cc in differ first)
]

-- a number below this one, by trying each
below : (Fits : ℕ → Type 0) (text_of : ℕ → List ℕ) (word : List ℕ) (n : ℕ) → ((x : ℕ) → Fits x ⊎ (Fits x → ⊥))
    → ((x : ℕ) × Fits x × (word ≡ text_of x)) ⊎ ((x : ℕ) → Fits x → x < n → word ≢ text_of x)
below Fits text_of word zero fits = inr (λ x h less. omega (arith, less))
below Fits text_of word (suc n) fits = elim (below Fits text_of word n fits) [
  | inl found ↦ inl found
  | inr none ↦ at (fits n) (same_text word (text_of n)) none
]
  where
    at : Fits n ⊎ (Fits n → ⊥) → (word ≡ text_of n) ⊎ (word ≡ text_of n → ⊥) → ((x : ℕ) → Fits x → x < n → word ≢ text_of x)
        → ((x : ℕ) × Fits x × (word ≡ text_of x)) ⊎ ((x : ℕ) → Fits x → x < suc n → word ≢ text_of x)
    at (inl h) (inl e) none = inl (n, h, e)
    at (inr bad) e none = inr (λ x h less. elim (cases_eq x n) [
      | inl same ↦ absurd (bad (subst Fits same h))
      | inr differ ↦ none x h (omega (arith, less, differ))
    ])
    at (inl f) (inr other) none = inr (λ x h less. elim (cases_eq x n) [
      | inl same ↦ λ e. other (e ∙ ap text_of same)
      | inr differ ↦ none x h (omega (arith, less, differ))
    ])

both : {P Q : Type 0} → P ⊎ (P → ⊥) → Q ⊎ (Q → ⊥) → (P × Q) ⊎ (P × Q → ⊥)
both (inl p) (inl q) = inl (p, q)
both (inr bad) q = inr (λ h. bad h.0)
both (inl p) (inr bad) = inr (λ h. bad h.1)

at_most : (n m : ℕ) → (n ≤ m) ⊎ (n ≤ m → ⊥)
at_most n m = elim (cases_lt m n) [ inl more ↦ inr (λ h. omega (arith, more, h)) | inr less ↦ inl less ]

-- a number that is known to be below another
decide : (Fits : ℕ → Type 0) (text_of : ℕ → List ℕ) (n : ℕ) → ((x : ℕ) → Fits x ⊎ (Fits x → ⊥)) → ((x : ℕ) → Fits x → x < n) → (word : List ℕ) → Decides Fits text_of word
decide Fits text_of n fits less word = elim (below Fits text_of word n fits) [
  | inl found ↦ inl found
  | inr none ↦ inr (λ x h. none x h (less x h))
]

clerk_decides : (word : List ℕ) → Decides IsClerk decimal word
clerk_decides = decide IsClerk decimal (suc last_lane) (λ x. both (at_most 1 x) (at_most x last_lane)) (λ x h. omega (arith, h))

id_decides : (word : List ℕ) → Decides IsId decimal word
id_decides = decide IsId decimal 4294967296 (λ x. both (at_most 1 x) (at_most x 4294967295)) (λ x h. omega (arith, h))

age_decides : (word : List ℕ) → Decides IsIssueAge decimal word
age_decides = decide IsIssueAge decimal 130 (λ x. at_most x 129) (λ x h. omega (arith, h))

amount_decides : (word : List ℕ) → Decides IsAmount cents_text word
amount_decides = decide IsAmount cents_text 10000000001 (λ x. both (at_most 1 x) (at_most x 10000000000)) (λ x h. omega (arith, h))

reinstatement_decides : (word : List ℕ) → Decides IsReinstatement cents_text word
reinstatement_decides = decide IsReinstatement cents_text 40000000001 (λ x. both (at_most 1 x) (at_most x 40000000000)) (λ x h. omega (arith, h))

years_fit : (plan : Plan) (age x : ℕ) → AreYears plan age x ⊎ (AreYears plan age x → ⊥)
years_fit Term age x = both (at_most 2 x) (at_most (age + x) 131)
years_fit Whole age x = cases_eq x 0
years_fit Endowment age x = both (at_most 2 x) (at_most (age + x) 131)
years_fit Limited age x = both (at_most 2 x) (at_most (age + x) 131)

years_few : (plan : Plan) (age x : ℕ) → AreYears plan age x → x < 132
years_few Term age x h = omega (arith, h)
years_few Whole age x h = omega (arith, h)
years_few Endowment age x h = omega (arith, h)
years_few Limited age x h = omega (arith, h)

years_decide : (plan : Plan) (age : ℕ) (word : List ℕ) → Decides (AreYears plan age) decimal word
years_decide plan age = decide (AreYears plan age) decimal 132 (years_fit plan age) (years_few plan age)

plan_decides : (word : List ℕ) → Decides (λ (plan : Plan). ⊤) plan_word word
plan_decides word = elim (same_text word (plan_word (plan_by (get_or word 0 0)))) [
  | inl e ↦ inl (plan_by (get_or word 0 0), tt, e)
  | inr other ↦ inr (λ plan h e. other (e ∙ ap plan_word (sym (ap (λ (w : List ℕ). plan_by (get_or w 0 0)) e ∙ plan_again plan))))
]

may_follow : (valued : ℕ) (k : Kind) → KindMayStandBehind valued k ⊎ (KindMayStandBehind valued k → ⊥)
may_follow valued kind.Value = elim (cases_lt valued most_valuations) [ inl less ↦ inl less | inr more ↦ inr (λ h. omega (arith, more, h)) ]
may_follow valued kind.Issue = inl tt
may_follow valued kind.Premium = inl tt
may_follow valued kind.Alter = inl tt
may_follow valued kind.Lapse = inl tt
may_follow valued kind.Reinstate = inl tt
may_follow valued kind.Claim = inl tt
may_follow valued kind.Settle = inl tt
may_follow valued kind.Mature = inl tt
may_follow valued kind.PaidUp = inl tt
may_follow valued kind.Upgrade = inl tt
may_follow valued kind.Trim = inl tt

kind_decides : (valued : ℕ) (word : List ℕ) → Decides (KindMayStandBehind valued) kind_spelling word
kind_decides valued word = by (may_follow valued there) (same_text word (kind_spelling there))
  where
    there : Kind
    there = kind_by word

    only : (k : Kind) → word ≡ kind_spelling k → k ≡ there
    only k e = sym (ap kind_by e ∙ kind_again k)

    by : KindMayStandBehind valued there ⊎ (KindMayStandBehind valued there → ⊥) → (word ≡ kind_spelling there) ⊎ (word ≡ kind_spelling there → ⊥) → Decides (KindMayStandBehind valued) kind_spelling word
    by (inl room) (inl e) = inl (there, room, e)
    by (inr full) e = inr (λ k h e. full (subst (KindMayStandBehind valued) (only k e) h))
    by (inl room) (inr other) = inr (λ k h e. other (e ∙ ap kind_spelling (only k e)))

count_decides : (word : List ℕ) → Decides (λ n. n ≤ most_commands) decimal word
count_decides = decide (λ n. n ≤ most_commands) decimal (suc most_commands) (λ x. at_most x most_commands) (λ x h. omega (arith, h))

position_decides : (word : List ℕ) → Decides IsPosition at_text word
position_decides word = by (same_text word (at_text Now)) (count_decides word)
  where
    none : (word ≡ at_text Now → ⊥) → ((n : ℕ) → n ≤ most_commands → word ≢ decimal n) → (at : At) → IsPosition at → word ≢ at_text at
    none other bad Now h = other
    none other bad (Position n) h = bad n h

    by : (word ≡ at_text Now) ⊎ (word ≡ at_text Now → ⊥) → Decides (λ n. n ≤ most_commands) decimal word → Decides IsPosition at_text word
    by (inl e) count = inl (Now, tt, e)
    by (inr other) (inl found) = inl (Position found.0, found.1, found.2)
    by (inr other) (inr bad) = inr (none other bad)

workers_decide : (word : List ℕ) → Decides AreWorkers decimal word
workers_decide = decide AreWorkers decimal 65 (λ x. both (at_most 1 x) (at_most x 64)) (λ x h. omega (arith, h))

-- the n-th day after 1900-01-01
abbrev day_after : ℕ → ℤ
day_after n = pos n -ℤ pos 25567

not_negative : (z : ℤ) → pos 0 ≤ℤ z → (n : ℕ) × (z ≡ pos n)
not_negative (pos n) h = (n, refl)
not_negative (negsuc n) h = absurd (omega (arith, ints))

day_is : (day : ℤ) → IsCommandDay day → (n : ℕ) × (n < 109573) × (day ≡ day_after n)
day_is day h =
    let low : negsuc 25566 ≤ℤ day = h.0 in
    let high : day ≤ℤ pos 84005 = h.1 in
    let found = not_negative (day +ℤ pos 25567) (omega (arith, ints)) in
    let same : day +ℤ pos 25567 ≡ pos found.0 = found.1 in
    (found.0, omega (arith, ints), omega (arith, ints))

day_decides : (word : List ℕ) → Decides IsCommandDay day_text word
day_decides word = elim (below (λ n. n < 109573) (λ n. day_text (day_after n)) word 109573 (λ n. less n)) [
  | inl found ↦
      let n = found.0 in
      let small : n < 109573 = found.1 in
      inl (day_after n, (omega (arith, ints), omega (arith, ints)), found.2)
  | inr none ↦ inr (λ day h e. let n = day_is day h in none n.0 n.1 n.1 (e ∙ ap day_text n.2))
]
  where
    less : (n : ℕ) → (n < 109573) ⊎ (n < 109573 → ⊥)
    less n = elim (cases_lt n 109573) [ inl h ↦ inl h | inr more ↦ inr (λ h. omega (arith, more, h)) ]

-- a form by its first field and what may follow it
judge : {X : Type 0} (Fits : X → Type 0) (text_of : X → List ℕ) (More : X → List (List ℕ) → Type 0) → ((word : List ℕ) → Decides Fits text_of word) → IsPossible (Then Fits text_of More)
    → ((x : X) → Fits x → Carries Fits text_of More x) → ((x : X) → Fits x → (rest : List (List ℕ)) → Judges (More x) rest) → (fields : List (List ℕ)) → Judges (Then Fits text_of More) fields
judge Fits text_of More decides possible carries more [] = inr (0, stops Fits text_of More possible.0 [] possible.1 (λ x h e. cc))
judge {X} Fits text_of More decides possible carries more (word ∷ rest) = elim (decides word) [
  | inl found ↦
      let P : List ℕ → Type 0 = λ w. Judges (Then Fits text_of More) (w ∷ rest) in
      subst P (sym found.2) (on found.0 found.1 (more found.0 found.1 rest))
  | inr none ↦ inr (0, stops Fits text_of More possible.0 (word ∷ rest) possible.1 (λ x h e. none x h (let one : word ∷ [] ≡ text_of x ∷ [] = e in cc)))
]
  where
    on : (x : X) → Fits x → Judges (More x) rest → Judges (Then Fits text_of More) (text_of x ∷ rest)
    on x h (inl right) = inl (record { value = x; fits = h; rest = rest; spelled = refl; more = right })
    on x h (inr bad) = inr (suc bad.0, goes_on Fits text_of More x rest bad.0 h (carries x h) bad.1)

judge_end : (fields : List (List ℕ)) → Judges Ends fields
judge_end [] = inl refl
judge_end (word ∷ rest) = inr (
  0,
  record {
    before = record { whole = []; right = refl; same = refl };
    bad = λ other. let same : word ∷ [] ≡ [] = other.same ∙ ap (take 1) other.right in cc;
  },
)

judge_amount : (More : List (List ℕ) → Type 0) → IsPossible More → ((rest : List (List ℕ)) → Judges More rest) → (fields : List (List ℕ)) → Judges (Amount More) fields
judge_amount More possible more = judge IsAmount cents_text (λ cents. More) amount_decides (amount_possible More possible) (λ x h. carries_all IsAmount cents_text More x) (λ x h. more)

judge_reinstatement : (fields : List (List ℕ)) → Judges Reinstatement fields
judge_reinstatement = judge IsReinstatement cents_text (λ cents. Ends) reinstatement_decides reinstatement_possible (λ x h. carries_all IsReinstatement cents_text Ends x) (λ x h. judge_end)

judge_day : (More : List (List ℕ) → Type 0) → IsPossible More → ((rest : List (List ℕ)) → Judges More rest) → (fields : List (List ℕ)) → Judges (Then IsCommandDay day_text (λ day. More)) fields
judge_day More possible more = judge IsCommandDay day_text (λ day. More) day_decides (day_possible More possible) (λ x h. carries_all IsCommandDay day_text More x) (λ x h. more)

judge_policy : (More : List (List ℕ) → Type 0) → IsPossible More → ((rest : List (List ℕ)) → Judges More rest) → (fields : List (List ℕ)) → Judges (PolicyAndDay More) fields
judge_policy More possible more =
    judge IsId decimal (λ id. Then IsCommandDay day_text (λ day. More)) id_decides (policy_possible More possible) (λ x h. carries_all IsId decimal (Then IsCommandDay day_text (λ day. More)) x)
    (λ x h. judge_day More possible more)

one_amount : (fields : List (List ℕ)) → Judges (Amount Ends) fields
one_amount = judge_amount Ends end_possible judge_end

two_amounts : (fields : List (List ℕ)) → Judges (Amount (Amount Ends)) fields
two_amounts = judge_amount (Amount Ends) (amount_possible Ends end_possible) one_amount

judge_years : (plan : Plan) (age : ℕ) → IsIssueAge age → (fields : List (List ℕ)) → Judges (YearsOn plan age) fields
judge_years plan age h =
    judge (AreYears plan age) decimal (λ years. Amount (Amount Ends)) (years_decide plan age) (years_possible plan age h) (λ x k. carries_all (AreYears plan age) decimal (Amount (Amount Ends)) x)
    (λ x k. two_amounts)

judge_age : (plan : Plan) (fields : List (List ℕ)) → Judges (AgeOn plan) fields
judge_age plan = judge IsIssueAge decimal (λ age. YearsOn plan age) age_decides (age_possible plan) (age_carries plan) (judge_years plan)

judge_plan : (fields : List (List ℕ)) → Judges PlanOn fields
judge_plan = judge (λ (plan : Plan). ⊤) plan_word AgeOn plan_decides plan_possible (λ plan h. plan_carries plan) (λ plan h. judge_age plan)

judge_workers : (fields : List (List ℕ)) → Judges WorkersOn fields
judge_workers = judge AreWorkers decimal (λ workers. Ends) workers_decide workers_possible (λ x h. carries_all AreWorkers decimal Ends x) (λ x h. judge_end)

judge_position : (fields : List (List ℕ)) → Judges PositionOn fields
judge_position = judge IsPosition at_text (λ at. WorkersOn) position_decides position_possible (λ x h. carries_all IsPosition at_text WorkersOn x) (λ x h. judge_workers)

judge_kind : (k : Kind) (fields : List (List ℕ)) → Judges (form_of k) fields
judge_kind kind.Issue = judge_policy PlanOn plan_possible judge_plan
judge_kind kind.Premium = judge_policy (Amount Ends) (amount_possible Ends end_possible) one_amount
judge_kind kind.Alter = judge_policy (Amount (Amount Ends)) (amount_possible (Amount Ends) (amount_possible Ends end_possible)) two_amounts
judge_kind kind.Lapse = judge_policy Ends end_possible judge_end
judge_kind kind.Reinstate = judge_policy Reinstatement reinstatement_possible judge_reinstatement
judge_kind kind.Claim = judge_policy Ends end_possible judge_end
judge_kind kind.Settle = judge_policy (Amount Ends) (amount_possible Ends end_possible) one_amount
judge_kind kind.Mature = judge_policy Ends end_possible judge_end
judge_kind kind.PaidUp = judge_policy (Amount Ends) (amount_possible Ends end_possible) one_amount
judge_kind kind.Upgrade = judge_end
judge_kind kind.Value = judge_day PositionOn position_possible judge_position
judge_kind kind.Trim = judge_end

judge_row : (valued : ℕ) (fields : List (List ℕ)) → Judges (RowForm valued) fields
judge_row valued =
    judge IsClerk decimal (λ clerk. KindForm valued) clerk_decides (row_possible valued) (λ x h. carries_all IsClerk decimal (KindForm valued) x)
    (λ x h. judge (KindMayStandBehind valued) kind_spelling form_of (kind_decides valued) (any_kind_possible valued) (λ k t. kind_carries valued k) (λ k t. judge_kind k))

-- after so many valuations all rows are lines'
record Goes (valued : ℕ) (rows : List (List (List ℕ))) : Type 0 where
  entries : List ClerkLine
  right : AllZip IsLineRow rows entries
  few : valued + valuations_in (all_lines entries) ≤ most_valuations

-- or a first one isn't
record Stops (valued : ℕ) (rows : List (List (List ℕ))) : Type 0 where
  before : List (List (List ℕ))
  faulty : List (List ℕ)
  after : List (List (List ℕ))
  split : rows ≡ before ++ faulty ∷ after
  goes : Goes valued before
  field : ℕ
  bad : IsFirstBadField (valued + valuations_in (all_lines goes.entries)) faulty field

-- one more row before the remaining ones
one_before : (valued : ℕ) (row : List (List ℕ)) (rows : List (List (List ℕ))) (entry : ClerkLine) → IsLineRow row entry → Goes (valued + valuations_in (entry.line ∷ [])) rows → Goes valued (row ∷ rows)
one_before valued row rows entry is g = record {
  entries = entry ∷ g.entries;
  right = (is, g.right);
  few = omega (arith, g.few, valuations-cons entry.line (all_lines g.entries));
}

judge_rows : (valued : ℕ) → valued ≤ most_valuations → (rows : List (List (List ℕ))) → Goes valued rows ⊎ Stops valued rows
unfolding one_before
judge_rows valued few [] = inl (record { entries = []; right = tt; few = omega (arith, few) })
judge_rows valued few (row ∷ rows) = on (judge_row valued row) (λ n h. judge_rows n h rows)
  where
    behind : (entry : ClerkLine) → IsLineRow row entry → Goes (valued + valuations_in (entry.line ∷ [])) rows ⊎ Stops (valued + valuations_in (entry.line ∷ [])) rows → Goes valued (row ∷ rows) ⊎ Stops valued (row ∷ rows)
    behind entry is (inl g) = inl (one_before valued row rows entry is g)
    behind entry is (inr s) =
        let count : valued + valuations_in (entry.line ∷ []) + valuations_in (all_lines s.goes.entries) ≡ valued + valuations_in (entry.line ∷ all_lines s.goes.entries) = omega (arith, valuations-cons entry.line (all_lines s.goes.entries)) in
        inr (record {
          before = row ∷ s.before;
          faulty = s.faulty;
          after = s.after;
          split = ap (λ (xs : List (List (List ℕ))). row ∷ xs) s.split;
          goes = one_before valued row s.before entry is s.goes;
          field = s.field;
          bad = subst (λ (n : ℕ). IsFirstBadField n s.faulty s.field) count s.bad;
        })

    on : Judges (RowForm valued) row → ((n : ℕ) → n ≤ most_valuations → Goes n rows ⊎ Stops n rows) → Goes valued (row ∷ rows) ⊎ Stops valued (row ∷ rows)
    on (inr bad) rest =
        let none : valued ≡ valued + 0 = omega arith in
        inr (record {
          before = [];
          faulty = row;
          after = rows;
          split = refl;
          goes = record { entries = []; right = tt; few = omega (arith, few) };
          field = bad.0 + 1;
          bad = subst (λ (n : ℕ). IsFirstBadField n row (bad.0 + 1)) none (bad_field valued row bad.0 (bad.0 + 1) refl bad.1);
        })
    on (inl right) rest =
        let found = of_row_form valued row right in
        behind found.0 found.1.is (rest (valued + valuations_in (found.0.line ∷ [])) (room_counted valued found.0.line few found.1.room))

pub judged : (bytes : List ℕ) → ((lanes : List Lane) × Reads bytes lanes) ⊎ ((row : ℕ) × ((field : ℕ) × IsFirstScriptFault bytes row field))
judged bytes = elim (judge_rows 0 (omega arith) (rows_of bytes)) [
  | inl g ↦ inl (lanes_of g.entries, record { entries = g.entries; rows = record { each = g.right; few = omega (arith, g.few) }; by_clerk = refl })
  | inr s ↦
      let none : 0 + valuations_in (all_lines s.goes.entries) ≡ valuations_in (all_lines s.goes.entries) = omega arith in
      inr (
        length s.before + 1,
        (
          s.field,
          record {
            before = s.before;
            faulty = s.faulty;
            after = s.after;
            rows = s.split;
            number = refl;
            entries = s.goes.entries;
            right = record { each = s.goes.right; few = omega (arith, s.goes.few) };
            bad = subst (λ (n : ℕ). IsFirstBadField n s.faulty s.field) none s.bad;
          },
        ),
      )
]

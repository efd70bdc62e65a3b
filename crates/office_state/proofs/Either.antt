-- Each file opens to commands, or shows why it doesn't
use Rattle.office_state.proofs.Names.{◌≡◌, ◌⊎◌, inl, inr, ℕ, ◌+◌, ◌≤◌, ℤ, pos, negsuc, List, [], ◌∷◌, ◌++◌, length, Option, Some, None, refl, sym, ap, ◌∙◌, subst, append-nil, append_assoc, arith, bytes_eq, true≢false, AllByRecursion, cases_Bool, cases_lt, map-append, Command, Issue, Premium, Alter, Lapse, Reinstate, Claim, Settle, Mature, PaidUp, Upgrade, Refusal, AreYears, IsCommandDay, IsValid, IsAccepted, judge, IsAccepted-push, spelling_of, read_fields, read_fields-spelling, IsJournal, bodies_of, IsOfTheFile, IsShown, IsUnfollowed, JournalBytes, Opens, StartCause, BadRecord, NotAJournal}
use Rattle.std.proofs.lemmas.Bool.Decides.{eqb_tells}
use Rattle.std.proofs.lemmas.Int.{ints}
use Rattle.std.proofs.lemmas.Slice.Eq.{bytes_eq-Decides}
use Rattle.policy_types.specs.declared.command.Plan.{Plan}
use Rattle.policy_types.specs.declared.command.Plan.TheVariants.{Term, Whole, Endowment, Limited}
use Rattle.record_codec.specs.inside.Reading.{command_at}
use Rattle.posting_journal.proofs.Either.{bodies_or_shown}
use Rattle.office_state.proofs.KeepingSteps.{all-more}

abbrev Either : Type 0 → Type 0
Either P = P ⊎ (P → ⊥)

both : {P Q : Type 0} → Either P → Either Q → Either (P × Q)
both (inl p) (inl q) = inl (p, q)
both (inl p) (inr not) = inr (λ pair. not pair.1)
both (inr not) q = inr (λ pair. not pair.0)

three : {P Q R : Type 0} → Either P → Either Q → Either R → Either (P × Q × R)
three p q r = elim (both p (both q r)) [
  | inl all ↦ inl (all.0, all.1.0, all.1.1)
  | inr not ↦ inr (λ all. not (all.0, (all.1, all.2)))
]

within : (least most n : ℕ) → Either ((least ≤ n) × (n ≤ most))
within least most n = elim (cases_lt n least) [
  | inl under ↦ inr (λ is. let low = is.0 in omega (arith, under, low))
  | inr low ↦ elim (cases_lt most n) [
    | inl over ↦ inr (λ is. let high = is.1 in omega (arith, over, high))
    | inr high ↦ inl (low, high)
  ]
]

-- ---- valid commands

in_days : (day : ℤ) → Either (IsCommandDay day)
in_days (pos n) = elim (cases_lt 84005 n) [
  | inl over ↦ inr (λ is. let high = is.1 in omega (arith, ints, high, over))
  | inr high ↦ inl (omega (arith, ints, high), omega (arith, ints, high))
]
in_days (negsuc n) = elim (cases_lt 25566 n) [
  | inl over ↦ inr (λ is. let low = is.0 in omega (arith, ints, low, over))
  | inr low ↦ inl (omega (arith, ints, low), omega (arith, ints, low))
]

some_years : (age years : ℕ) → Either ((2 ≤ years) × (age + years ≤ 131))
some_years age years = elim (cases_lt years 2) [
  | inl few ↦ inr (λ is. let low = is.0 in omega (arith, few, low))
  | inr low ↦ elim (cases_lt 131 (age + years)) [
    | inl over ↦ inr (λ is. let high = is.1 in omega (arith, over, high))
    | inr high ↦ inl (low, high)
  ]
]

in_years : (plan : Plan) (age years : ℕ) → Either (AreYears plan age years)
in_years Whole age years = elim (eqb_tells years 0) [ inl none ↦ inl none.1 | inr some ↦ inr some.1 ]
in_years Term age years = some_years age years
in_years Endowment age years = some_years age years
in_years Limited age years = some_years age years

valid : (command : Command) → Either (IsValid command)
valid (Issue id day plan age years amount premium) = elim (both (three (within 1 4294967295 id) (in_days day) (within 0 129 age))
    (three (in_years plan age years) (within 1 10000000000 amount) (within 1 10000000000 premium))) [
      | inl all ↦ inl (record {
        id_in = all.0.0;
        day_in = all.0.1;
        age_in = all.0.2.1;
        years_in = all.1.0;
        amount_in = all.1.1;
        premium_in = all.1.2;
      })
      | inr not ↦ inr (λ is. not ((is.id_in, is.day_in, (omega arith, is.age_in)), (is.years_in, is.amount_in, is.premium_in)))
    ]
valid (Premium id day amount) = three (within 1 4294967295 id) (in_days day) (within 1 10000000000 amount)
valid (Alter id day amount premium) =
    elim (both (three (within 1 4294967295 id) (in_days day) (within 1 10000000000 amount)) (within 1 10000000000 premium)) [
      | inl all ↦ inl (all.0.0, all.0.1, all.0.2, all.1)
      | inr not ↦ inr (λ is. not ((is.0, is.1, is.2), is.3))
    ]
valid (Lapse id day) = both (within 1 4294967295 id) (in_days day)
valid (Reinstate id day amount) = three (within 1 4294967295 id) (in_days day) (within 1 40000000000 amount)
valid (Claim id day) = both (within 1 4294967295 id) (in_days day)
valid (Settle id day amount) = three (within 1 4294967295 id) (in_days day) (within 1 10000000000 amount)
valid (Mature id day) = both (within 1 4294967295 id) (in_days day)
valid (PaidUp id day amount) = three (within 1 4294967295 id) (in_days day) (within 1 10000000000 amount)
valid Upgrade = inl tt

-- ---- a body after commands

is_accepted : (why : Option Refusal) → Either (why ≡ None)
is_accepted None = inl refl
is_accepted (Some refusal) = inr (λ is. cc)

same_text : (xs ys : List ℕ) → Either (xs ≡ ys)
same_text xs ys = elim (cases_Bool (bytes_eq xs ys)) [
  | inl same ↦ inl ((bytes_eq-Decides xs ys).0 same)
  | inr other ↦ inr (λ same. true≢false (sym ((bytes_eq-Decides xs ys).1 same) ∙ other))
]

-- the command can stand after these in a journal
record CanFollow (commands : List Command) (command : Command) : Type 0 where
  valid : IsValid command
  accepted : judge commands command ≡ None

-- the body spells no command that can follow these
abbrev IsUnspelled : List ℕ → List Command → Type 0
IsUnspelled body commands = (command : Command) → body ≡ spelling_of command → CanFollow commands command → ⊥

-- the body spells one command that can follow them, or none
abbrev Follows : List Command → List ℕ → Type 0
Follows commands body = ((command : Command) × (body ≡ spelling_of command) × CanFollow commands command) ⊎ IsUnspelled body commands

only_one : (commands : List Command) (body : List ℕ) (command : Command) → command_at (read_fields body) ≡ Some command
    → ((body ≡ spelling_of command) × CanFollow commands command → ⊥) → IsUnspelled body commands
only_one commands body command read not other spelled can =
    let same : ◌≡◌ {A = Option Command} (Some command) (Some other) = sym read ∙ read_fields-spelling body other (record { valid = can.valid; spelled = spelled }) in
    let is : other ≡ command = cc in
    not (spelled ∙ ap spelling_of is, subst (CanFollow commands) is can)

follows_as : (commands : List Command) (body : List ℕ) (read : Option Command) → command_at (read_fields body) ≡ read → Follows commands body
follows_as commands body None read = inr (λ command spelled can.
    let some = read_fields-spelling body command (record { valid = can.valid; spelled = spelled }) in
    let never : ◌≡◌ {A = Option Command} None (Some command) = sym read ∙ some in cc)
follows_as commands body (Some command) read =
    elim (three (same_text body (spelling_of command)) (valid command) (is_accepted (judge commands command))) [
      | inl all ↦ inl (command, all.0, record { valid = all.1; accepted = all.2 })
      | inr not ↦ inr (only_one commands body command read (λ is. not (is.0, is.1.valid, is.1.accepted)))
    ]

-- ---- all bodies

commands_or_shown : (bytes : List ℕ) (commands : List Command) (rest : List (List ℕ)) → IsJournal bytes (bodies_of commands ++ rest)
    → AllByRecursion IsValid commands → IsAccepted commands
    → ((all : List Command) × JournalBytes bytes all) ⊎ ((n : ℕ) × IsUnfollowed bytes n)
commands_or_shown bytes commands [] records right accepted =
    inl (commands, record { records = subst (IsJournal bytes) (append-nil (bodies_of commands)) records; valid = right; accepted = accepted })
commands_or_shown bytes commands (body ∷ rest) records right accepted = elim (follows_as commands body (command_at (read_fields body)) refl) [
  | inr none ↦ inr (
    length commands,
    record {
      commands = commands;
      body = body;
      rest = rest;
      counted = refl;
      records = records;
      valid = right;
      accepted = accepted;
      none = λ command spelled valid follows. none command spelled (record { valid = valid; accepted = follows });
    },
  )
  | inl is ↦
      let more : bodies_of (commands ++ is.0 ∷ []) ≡ bodies_of commands ++ body ∷ [] =
      map-append spelling_of commands (is.0 ∷ []) ∙ ap (λ (b : List ℕ). bodies_of commands ++ b ∷ []) (sym is.1) in
      commands_or_shown bytes (commands ++ is.0 ∷ []) rest
      (subst (IsJournal bytes) (sym (append_assoc (bodies_of commands) (body ∷ []) rest) ∙ ap (λ (b : List (List ℕ)). b ++ rest) (sym more)) records)
      (all-more IsValid commands is.0 right is.2.valid) (IsAccepted-push commands is.0 accepted is.2.accepted)
]

pub opens_or_shown : (bytes : List ℕ) → ((commands : List Command) × Opens bytes commands)
    ⊎ ((cause : StartCause) × IsOfTheFile cause × IsShown bytes cause)
opens_or_shown bytes = elim (bodies_or_shown bytes) [
  | inl (bodies, inl journal) ↦ elim (commands_or_shown bytes [] bodies journal tt tt) [
    | inl all ↦ inl (all.0, inl all.1)
    | inr bad ↦ inr (BadRecord bad.0, tt, inr bad.1)
  ]
  | inl (bodies, inr creation) ↦ inl ([], inr (refl, creation.1))
  | inr (inl foreign) ↦ inr (NotAJournal, tt, foreign)
  | inr (inr bad) ↦ inr (BadRecord bad.0, tt, inl bad.1)
]

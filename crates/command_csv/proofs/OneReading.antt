-- A script is read in one way
use Rattle.command_csv.proofs.Names.{◌≡◌, ℕ, ◌≤◌, cond, Bool, true, false, List, [], ◌∷◌, Some, take, refl, ap, sym, ◌∙◌, subst, arith, lit≤, ℤ, pos, AllZip, decimal_injective, decimal_is_IsNumeral, Plan, Term, Line, At, Now, Position, Post, Value, Trim, Lane, IsValid, IsId, id_of, day_of, IsDay, days_in_month, is_leap_year, day_number, day_text, IsDayText, cents_text, Kind, rows_of, ClerkLine, at_text, command_fields, line_fields, IsPosition, IsScriptLine, IsLineRow, Reads, lanes_of}
use Rattle.std.specs.Prelude.{decimal, ◌==◌, ◌||◌}
use Rattle.std.specs.Str.Parse.{AllDigits}
use Rattle.std.proofs.lemmas.Str.Parse.{digit_from_value}
use Rattle.std.proofs.lemmas.List.{append-nil}
use Rattle.policy_types.specs.declared.command.Command.{Command}
use Rattle.policy_types.specs.declared.command.Command.TheVariants as command
use Rattle.std.specs.Option.{unwrap_or}
use Rattle.life_dates.proofs.TextLemmas.{IsDayText-day_text, read_exact}
use Rattle.money_core.proofs.CentsTextLemmas.{cents_text_injective}
use Rattle.command_csv.specs.declared.kind.Kind.TheVariants as kind
use Rattle.command_csv.proofs.FieldTexts.{term_day, years_within}
use Rattle.command_csv.proofs.Lines.{kind_in, kind_of, one_kind}
use Rattle.command_csv.proofs.Words.{plan_word_injective}

chosen_at_most : (test : Bool) (x y : ℕ) → x ≤ 31 → y ≤ 31 → cond test x y ≤ 31
chosen_at_most true x y h k = h
chosen_at_most false x y h k = k

days_at_most : (year month : ℕ) → days_in_month (pos year) month ≤ 31
days_at_most year month =
    let february = chosen_at_most (is_leap_year (pos year)) 29 28 (lit≤ tt) (lit≤ tt) in
    let short : Bool = (month == 4) || (month == 6) || (month == 9) || (month == 11) in
    let other = chosen_at_most short 30 31 (lit≤ tt) (lit≤ tt) in
    chosen_at_most (month == 2) (cond (is_leap_year (pos year)) 29 28) (cond short 30 31) february other

one_day : (text : List ℕ) (a b : ℤ) → IsDay a → IsDay b → IsDayText text a → IsDayText text b → a ≡ b
one_day text a b a_in b_in first other =
    let P : ℤ → Type 0 = λ day. IsDay day in
    let found = read_exact (Some (day_number first.date)) first.date text first.is_date.year_high (omega (arith, first.is_date.month_high)) (omega (arith, first.is_date.day_high, days_at_most first.date.year first.date.month))
    ((first.is_date, subst P (sym first.is_number) a_in), refl) first.is_text b b_in other in
    let same : day_number first.date ≡ b = cc in
    sym first.is_number ∙ same

day_text_injective : (a b : ℤ) → IsDay a → IsDay b → day_text a ≡ day_text b → a ≡ b
day_text_injective a b a_in b_in e =
    let P : List ℕ → Type 0 = λ text. IsDayText text b in
    one_day (day_text a) a b a_in b_in (IsDayText-day_text a (term_day a a_in)) (subst P (sym e) (IsDayText-day_text b (term_day b b_in)))

same_id : (a b : ℕ) → IsId a → IsId b → decimal a ≡ decimal b → a ≡ b
same_id a b h k e = decimal_injective a b (omega (arith, h)) (omega (arith, k)) e

same_cents : (a b : ℕ) → a ≤ 40000000000 → b ≤ 40000000000 → cents_text a ≡ cents_text b → a ≡ b
same_cents a b h k e = cents_text_injective a b (omega (arith, h)) (omega (arith, k)) e

-- fields that some commands have and others don't
day_in : Command → ℤ
day_in c = unwrap_or (day_of c) (pos 0)

plan_in : Command → Plan
plan_in (command.Issue id day plan age years amount premium) = plan
plan_in _ = Term

age_in : Command → ℕ
age_in (command.Issue id day plan age years amount premium) = age
age_in _ = 0

years_in : Command → ℕ
years_in (command.Issue id day plan age years amount premium) = years
years_in _ = 0

amount_in : Command → ℕ
amount_in (command.Issue id day plan age years amount premium) = amount
amount_in (command.Premium id day amount) = amount
amount_in (command.Alter id day amount premium) = amount
amount_in (command.Reinstate id day amount) = amount
amount_in (command.Settle id day amount) = amount
amount_in (command.PaidUp id day amount) = amount
amount_in _ = 0

premium_in : Command → ℕ
premium_in (command.Issue id day plan age years amount premium) = premium
premium_in (command.Alter id day amount premium) = premium
premium_in _ = 0

-- the command of a kind, of what it may hold; a kind of no posting stands for a lapse
made : Kind → ℕ → ℤ → Plan → ℕ → ℕ → ℕ → ℕ → Command
made kind.Issue id day plan age years amount premium = command.Issue id day plan age years amount premium
made kind.Premium id day plan age years amount premium = command.Premium id day amount
made kind.Alter id day plan age years amount premium = command.Alter id day amount premium
made kind.Reinstate id day plan age years amount premium = command.Reinstate id day amount
made kind.Claim id day plan age years amount premium = command.Claim id day
made kind.Settle id day plan age years amount premium = command.Settle id day amount
made kind.Mature id day plan age years amount premium = command.Mature id day
made kind.PaidUp id day plan age years amount premium = command.PaidUp id day amount
made kind.Upgrade id day plan age years amount premium = command.Upgrade
made _ id day plan age years amount premium = command.Lapse id day

made_again : (c : Command) → c ≡ made (kind_in c) (id_of c) (day_in c) (plan_in c) (age_in c) (years_in c) (amount_in c) (premium_in c)
unfolding day_in plan_in age_in years_in amount_in premium_in made
made_again (command.Issue id day plan age years amount premium) = refl
made_again (command.Premium id day amount) = refl
made_again (command.Alter id day amount premium) = refl
made_again (command.Lapse id day) = refl
made_again (command.Reinstate id day amount) = refl
made_again (command.Claim id day) = refl
made_again (command.Settle id day amount) = refl
made_again (command.Mature id day) = refl
made_again (command.PaidUp id day amount) = refl
made_again command.Upgrade = refl

-- two commands of one kind, of the same fields
one_made : (k : Kind) (id id' : ℕ) (day day' : ℤ) (plan plan' : Plan) (age age' years years' amount amount' premium premium' : ℕ)
    → IsValid (made k id day plan age years amount premium) → IsValid (made k id' day' plan' age' years' amount' premium')
    → command_fields (made k id day plan age years amount premium) ≡ command_fields (made k id' day' plan' age' years' amount' premium')
    → made k id day plan age years amount premium ≡ made k id' day' plan' age' years' amount' premium'
unfolding made
one_made kind.Issue id id' day day' plan plan' age age' years years' amount amount' premium premium' h k e =
    let i : id ≡ id' = same_id id id' h.id_in k.id_in cc in
    let d : day ≡ day' = day_text_injective day day' h.day_in k.day_in cc in
    let p : plan ≡ plan' = plan_word_injective plan plan' cc in
    let a : age ≡ age' = decimal_injective age age' (omega (arith, h.age_in)) (omega (arith, k.age_in)) cc in
    let y : years ≡ years' = decimal_injective years years' (omega (arith, years_within plan age years h.years_in)) (omega (arith, years_within plan' age' years' k.years_in)) cc in
    let m : amount ≡ amount' = same_cents amount amount' (omega (arith, h.amount_in)) (omega (arith, k.amount_in)) cc in
    let r : premium ≡ premium' = same_cents premium premium' (omega (arith, h.premium_in)) (omega (arith, k.premium_in)) cc in
    cc
one_made kind.Premium id id' day day' plan plan' age age' years years' amount amount' premium premium' h k e =
    let i : id ≡ id' = same_id id id' h.0 k.0 cc in
    let d : day ≡ day' = day_text_injective day day' h.1 k.1 cc in
    let m : amount ≡ amount' = same_cents amount amount' (omega (arith, h.2)) (omega (arith, k.2)) cc in
    cc
one_made kind.Alter id id' day day' plan plan' age age' years years' amount amount' premium premium' h k e =
    let i : id ≡ id' = same_id id id' h.0 k.0 cc in
    let d : day ≡ day' = day_text_injective day day' h.1 k.1 cc in
    let m : amount ≡ amount' = same_cents amount amount' (omega (arith, h.2)) (omega (arith, k.2)) cc in
    let r : premium ≡ premium' = same_cents premium premium' (omega (arith, h.3)) (omega (arith, k.3)) cc in
    cc
one_made kind.Reinstate id id' day day' plan plan' age age' years years' amount amount' premium premium' h k e =
    let i : id ≡ id' = same_id id id' h.0 k.0 cc in
    let d : day ≡ day' = day_text_injective day day' h.1 k.1 cc in
    let m : amount ≡ amount' = same_cents amount amount' (omega (arith, h.2)) (omega (arith, k.2)) cc in
    cc
one_made kind.Claim id id' day day' plan plan' age age' years years' amount amount' premium premium' h k e =
    let i : id ≡ id' = same_id id id' h.0 k.0 cc in
    let d : day ≡ day' = day_text_injective day day' h.1 k.1 cc in
    cc
one_made kind.Settle id id' day day' plan plan' age age' years years' amount amount' premium premium' h k e =
    let i : id ≡ id' = same_id id id' h.0 k.0 cc in
    let d : day ≡ day' = day_text_injective day day' h.1 k.1 cc in
    let m : amount ≡ amount' = same_cents amount amount' (omega (arith, h.2)) (omega (arith, k.2)) cc in
    cc
one_made kind.Mature id id' day day' plan plan' age age' years years' amount amount' premium premium' h k e =
    let i : id ≡ id' = same_id id id' h.0 k.0 cc in
    let d : day ≡ day' = day_text_injective day day' h.1 k.1 cc in
    cc
one_made kind.PaidUp id id' day day' plan plan' age age' years years' amount amount' premium premium' h k e =
    let i : id ≡ id' = same_id id id' h.0 k.0 cc in
    let d : day ≡ day' = day_text_injective day day' h.1 k.1 cc in
    let m : amount ≡ amount' = same_cents amount amount' (omega (arith, h.2)) (omega (arith, k.2)) cc in
    cc
one_made kind.Upgrade id id' day day' plan plan' age age' years years' amount amount' premium premium' h k e = refl
one_made _ id id' day day' plan plan' age age' years years' amount amount' premium premium' h k e =
    let i : id ≡ id' = same_id id id' h.0 k.0 cc in
    let d : day ≡ day' = day_text_injective day day' h.1 k.1 cc in
    cc

one_command : (a b : Command) → IsValid a → IsValid b → command_fields a ≡ command_fields b → a ≡ b
one_command a b h k e =
    let kinds : kind_in a ≡ kind_in b = one_kind (Post a) (Post b) [] (ap (take 1) (append-nil (command_fields a) ∙ e)) in
    let one = made_again a in
    let two : b ≡ made (kind_in a) (id_of b) (day_in b) (plan_in b) (age_in b) (years_in b) (amount_in b) (premium_in b) =
    made_again b ∙ ap (λ (x : Kind). made x (id_of b) (day_in b) (plan_in b) (age_in b) (years_in b) (amount_in b) (premium_in b)) (sym kinds) in
    let P : Command → Type 0 = λ c. IsValid c in
    one ∙ one_made (kind_in a) (id_of a) (id_of b) (day_in a) (day_in b) (plan_in a) (plan_in b) (age_in a) (age_in b) (years_in a) (years_in b) (amount_in a) (amount_in b) (premium_in a) (premium_in b)
    (subst P one h) (subst P two k) (ap command_fields (sym one) ∙ e ∙ ap command_fields two) ∙ sym two

-- no posting is of the other kinds
abbrev is_posting : Kind → Type 0
is_posting kind.Value = ⊥
is_posting kind.Trim = ⊥
is_posting _ = Unit {0}

posting : (c : Command) → is_posting (kind_in c)
posting (command.Issue id day plan age years amount premium) = tt
posting (command.Premium id day amount) = tt
posting (command.Alter id day amount premium) = tt
posting (command.Lapse id day) = tt
posting (command.Reinstate id day amount) = tt
posting (command.Claim id day) = tt
posting (command.Settle id day amount) = tt
posting (command.Mature id day) = tt
posting (command.PaidUp id day amount) = tt
posting command.Upgrade = tt

no_posting : (c : Command) (k : Kind) → (is_posting k → ⊥) → kind_in c ≡ k → ⊥
no_posting c k none e = none (subst is_posting e (posting c))

-- a position's digits aren't a word
now_differs : (n : ℕ) → n ≤ 4000000 → at_text Now ≡ decimal n → ⊥
now_differs n h e = omega (arith, digit_from_value 110 (subst (AllDigits 10) (sym e) (decimal_is_IsNumeral n (omega (arith, h))).0.1).0)

one_position : (a b : At) → IsPosition a → IsPosition b → at_text a ≡ at_text b → a ≡ b
one_position Now Now h k e = refl
one_position Now (Position n) h k e = absurd (now_differs n k e)
one_position (Position n) Now h k e = absurd (now_differs n h (sym e))
one_position (Position n) (Position m) h k e = ap (λ (p : ℕ). Position p) (decimal_injective n m (omega (arith, h)) (omega (arith, k)) e)

one_line : (a b : Line) → IsScriptLine a → IsScriptLine b → line_fields a ≡ line_fields b → a ≡ b
one_line a b h k e = by a b h k e (one_kind a b [] (ap (take 1) (append-nil (line_fields a) ∙ e)))
  where
    by : (a b : Line) → IsScriptLine a → IsScriptLine b → line_fields a ≡ line_fields b → kind_of a ≡ kind_of b → a ≡ b
    by (Post a) (Post b) h k e kinds = ap (λ (c : Command). Post c) (one_command a b h k e)
    by (Value on at workers) (Value on' at' workers') h k e kinds =
        let d : on ≡ on' = day_text_injective on on' h.0 k.0 cc in
        let p : at ≡ at' = one_position at at' h.1 k.1 cc in
        let w : workers ≡ workers' = decimal_injective workers workers' (omega (arith, h.2)) (omega (arith, k.2)) cc in
        cc
    by Trim Trim h k e kinds = refl
    by (Post a) (Value on at workers) h k e kinds = absurd (no_posting a kind.Value (λ h. h) kinds)
    by (Post a) Trim h k e kinds = absurd (no_posting a kind.Trim (λ h. h) kinds)
    by (Value on at workers) (Post b) h k e kinds = absurd (no_posting b kind.Value (λ h. h) (sym kinds))
    by Trim (Post b) h k e kinds = absurd (no_posting b kind.Trim (λ h. h) (sym kinds))
    by (Value on at workers) Trim h k e kinds = cc
    by Trim (Value on at workers) h k e kinds = cc

pub one_entry : (row : List (List ℕ)) (a b : ClerkLine) → IsLineRow row a → IsLineRow row b → a ≡ b
one_entry row a b h k =
    let whole : decimal a.clerk ∷ line_fields a.line ≡ decimal b.clerk ∷ line_fields b.line = sym h.1 ∙ k.1 in
    let line : a.line ≡ b.line = one_line a.line b.line h.0.right k.0.right cc in
    let clerk : a.clerk ≡ b.clerk = decimal_injective a.clerk b.clerk (omega (arith, h.0.clerk_in)) (omega (arith, k.0.clerk_in)) cc in
    let made : ℕ → Line → ClerkLine = λ n l. record { clerk = n; line = l } in
    let first : made a.clerk a.line ≡ made b.clerk b.line = cc in
    first

one_list : (rows : List (List (List ℕ))) (xs ys : List ClerkLine) → AllZip IsLineRow rows xs → AllZip IsLineRow rows ys → xs ≡ ys
one_list [] [] [] h k = refl
one_list [] [] (y ∷ ys) h k = absurd k
one_list [] (x ∷ xs) ys h k = absurd h
one_list (row ∷ rows) [] ys h k = absurd h
one_list (row ∷ rows) (x ∷ xs) [] h k = absurd k
one_list (row ∷ rows) (x ∷ xs) (y ∷ ys) h k =
    let first = one_entry row x y h.0 k.0 in
    let rest = one_list rows xs ys h.1 k.1 in
    cc

pub one_reading : (bytes : List ℕ) (lanes others : List Lane) → Reads bytes lanes → Reads bytes others → lanes ≡ others
one_reading bytes lanes others a b = a.by_clerk ∙ ap lanes_of (one_list (rows_of bytes) a.entries b.entries a.rows.each b.rows.each) ∙ sym b.by_clerk

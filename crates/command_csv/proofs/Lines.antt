-- The rows of lines, by the form of a row
use Rattle.command_csv.proofs.Names.{false≢true, ◌≡◌, ◌≢◌, ℕ, suc, ◌+◌, ◌-◌, ◌≤◌, List, [], ◌∷◌, ◌++◌, length, take, drop, refl, ap, sym, ◌∙◌, subst, arith, length-append, decimal, Line, Post, Value, Trim, IsValid, LineFields, Kind, ClerkLine, command_fields, line_fields, row_fields, IsClerk, IsScriptLine, IsClerkLine, MayStandBehind, FitsUpTo, IsFirstBadField, Took, StopsIn, HoldsLine, IsNextRow, left_of, KindForm, RowForm, KindMayStandBehind, kind_spelling, form_of, FitsIn, StopsAfter}
use Rattle.std.proofs.lemmas.List.{append-nil, length-take, take-append-le, take-take}
use Rattle.policy_types.specs.declared.command.Command.{Command}
use Rattle.policy_types.specs.declared.command.Command.TheVariants as command
use Rattle.command_csv.specs.declared.kind.Kind.TheVariants as kind
use Rattle.command_csv.proofs.Words.{kind_word_injective}
use Rattle.command_csv.proofs.Forms.{then_is}

-- the kind of a command
abbrev pub kind_in : Command → Kind
kind_in (command.Issue id day plan age years amount premium) = kind.Issue
kind_in (command.Premium id day amount) = kind.Premium
kind_in (command.Alter id day amount premium) = kind.Alter
kind_in (command.Lapse id day) = kind.Lapse
kind_in (command.Reinstate id day amount) = kind.Reinstate
kind_in (command.Claim id day) = kind.Claim
kind_in (command.Settle id day amount) = kind.Settle
kind_in (command.Mature id day) = kind.Mature
kind_in (command.PaidUp id day amount) = kind.PaidUp
kind_in command.Upgrade = kind.Upgrade

-- the kind of a line
abbrev pub kind_of : Line → Kind
kind_of (Post c) = kind_in c
kind_of (Value on at workers) = kind.Value
kind_of Trim = kind.Trim

-- how many fields a line of a kind has after the clerk's number
abbrev pub size_of : Kind → ℕ
size_of kind.Issue = 8
size_of kind.Premium = 4
size_of kind.Alter = 5
size_of kind.Lapse = 3
size_of kind.Reinstate = 4
size_of kind.Claim = 3
size_of kind.Settle = 4
size_of kind.Mature = 3
size_of kind.PaidUp = 4
size_of kind.Upgrade = 1
size_of kind.Value = 4
size_of kind.Trim = 1

begins_with_word : (c : Command) → command_fields c ≡ kind_spelling (kind_in c) ∷ drop 1 (command_fields c)
begins_with_word (command.Issue id day plan age years amount premium) = refl
begins_with_word (command.Premium id day amount) = refl
begins_with_word (command.Alter id day amount premium) = refl
begins_with_word (command.Lapse id day) = refl
begins_with_word (command.Reinstate id day amount) = refl
begins_with_word (command.Claim id day) = refl
begins_with_word (command.Settle id day amount) = refl
begins_with_word (command.Mature id day) = refl
begins_with_word (command.PaidUp id day amount) = refl
begins_with_word command.Upgrade = refl

has_size : (c : Command) → length (command_fields c) ≡ size_of (kind_in c)
has_size (command.Issue id day plan age years amount premium) = refl
has_size (command.Premium id day amount) = refl
has_size (command.Alter id day amount premium) = refl
has_size (command.Lapse id day) = refl
has_size (command.Reinstate id day amount) = refl
has_size (command.Claim id day) = refl
has_size (command.Settle id day amount) = refl
has_size (command.Mature id day) = refl
has_size (command.PaidUp id day amount) = refl
has_size command.Upgrade = refl

size_at_most : (k : Kind) → size_of k ≤ 8
size_at_most kind.Issue = omega arith
size_at_most kind.Premium = omega arith
size_at_most kind.Alter = omega arith
size_at_most kind.Lapse = omega arith
size_at_most kind.Reinstate = omega arith
size_at_most kind.Claim = omega arith
size_at_most kind.Settle = omega arith
size_at_most kind.Mature = omega arith
size_at_most kind.PaidUp = omega arith
size_at_most kind.Upgrade = omega arith
size_at_most kind.Value = omega arith
size_at_most kind.Trim = omega arith

pub line_begins : (line : Line) → line_fields line ≡ kind_spelling (kind_of line) ∷ drop 1 (line_fields line)
line_begins (Post c) = begins_with_word c
line_begins (Value on at workers) = refl
line_begins Trim = refl

line_size : (line : Line) → length (line_fields line) ≡ size_of (kind_of line)
line_size (Post c) = has_size c
line_size (Value on at workers) = refl
line_size Trim = refl

pub short : (line : Line) → length (line_fields line) ≤ 8
short line = omega (arith, line_size line, size_at_most (kind_of line))

-- lines whose fields begin alike are of one kind
pub one_kind : (a b : Line) (rest : List (List ℕ)) → take 1 (line_fields a ++ rest) ≡ take 1 (line_fields b) → kind_of a ≡ kind_of b
one_kind a b rest e =
    let left : take 1 (line_fields a ++ rest) ≡ kind_spelling (kind_of a) ∷ [] = ap (λ (xs : List (List ℕ)). take 1 (xs ++ rest)) (line_begins a) in
    let right : take 1 (line_fields b) ≡ kind_spelling (kind_of b) ∷ [] = ap (take 1) (line_begins b) in
    let words : kind_spelling (kind_of a) ≡ kind_spelling (kind_of b) = cc in
    kind_word_injective (kind_of a) (kind_of b) words

-- the fields of a valid command have the form
has_form : (valued : ℕ) (c : Command) → IsValid c → KindForm valued (command_fields c)
has_form valued (command.Issue id day plan age years amount premium) h =
    then_is kind.Issue tt
    (then_is id h.id_in (then_is day h.day_in (then_is plan tt (then_is age h.age_in (then_is years h.years_in (then_is amount h.amount_in (then_is premium h.premium_in refl)))))))
has_form valued (command.Premium id day amount) h = then_is kind.Premium tt (then_is id h.0 (then_is day h.1 (then_is amount h.2 refl)))
has_form valued (command.Alter id day amount premium) h = then_is kind.Alter tt (then_is id h.0 (then_is day h.1 (then_is amount h.2 (then_is premium h.3 refl))))
has_form valued (command.Lapse id day) h = then_is kind.Lapse tt (then_is id h.0 (then_is day h.1 refl))
has_form valued (command.Reinstate id day amount) h = then_is kind.Reinstate tt (then_is id h.0 (then_is day h.1 (then_is amount h.2 refl)))
has_form valued (command.Claim id day) h = then_is kind.Claim tt (then_is id h.0 (then_is day h.1 refl))
has_form valued (command.Settle id day amount) h = then_is kind.Settle tt (then_is id h.0 (then_is day h.1 (then_is amount h.2 refl)))
has_form valued (command.Mature id day) h = then_is kind.Mature tt (then_is id h.0 (then_is day h.1 refl))
has_form valued (command.PaidUp id day amount) h = then_is kind.PaidUp tt (then_is id h.0 (then_is day h.1 (then_is amount h.2 refl)))
has_form valued command.Upgrade h = then_is kind.Upgrade tt refl

-- and so do the fields of a line that may come where it comes
line_form : (valued : ℕ) (line : Line) → IsScriptLine line → MayStandBehind valued line → KindForm valued (line_fields line)
line_form valued (Post c) h room = has_form valued c h
line_form valued (Value on at workers) h room = then_is kind.Value (room refl) (then_is on h.0 (then_is at h.1 (then_is workers h.2 refl)))
line_form valued Trim h room = then_is kind.Trim tt refl

row_form : (valued : ℕ) (entry : ClerkLine) → IsClerkLine entry → MayStandBehind valued entry.line → RowForm valued (row_fields entry)
row_form valued entry h room = then_is entry.clerk h.clerk_in (line_form valued entry.line h.right room)

-- the fields are those of a line that may stand after so many valuations
record IsBehind (valued : ℕ) (fields : List (List ℕ)) : Type 0 where
  line : Line
  right : IsScriptLine line
  room : MayStandBehind valued line
  spelled : fields ≡ line_fields line

posted : (valued : ℕ) (fields : List (List ℕ)) (c : Command) → IsValid c → fields ≡ command_fields c → IsBehind valued fields
posted valued fields c h e = record { line = Post c; right = h; room = λ no. absurd (false≢true no); spelled = e }

-- and what has the form is the fields of a right line
of_form : (valued : ℕ) (fields : List (List ℕ)) → KindForm valued fields → IsBehind valued fields
of_form valued fields h = by h.value h.rest h.fits h.spelled h.more
  where
    by : (k : Kind) (rest : List (List ℕ)) → KindMayStandBehind valued k → fields ≡ kind_spelling k ∷ rest → form_of k rest → IsBehind valued fields
    by kind.Issue rest fits e m =
        let d = m.more in
        let p = d.more in
        let a = p.more in
        let y = a.more in
        let s = y.more in
        let r = s.more in
        posted valued fields (command.Issue m.value d.value p.value a.value y.value s.value r.value)
        record { id_in = m.fits; day_in = d.fits; age_in = a.fits; years_in = y.fits; amount_in = s.fits; premium_in = r.fits }
        (let one = m.spelled in
        let two = d.spelled in
        let three = p.spelled in
        let four = a.spelled in
        let five = y.spelled in
        let six = s.spelled in
        let seven = r.spelled in
        let last = r.more in
        cc)
    by kind.Premium rest fits e m =
        let d = m.more in
        let s = d.more in
        posted valued fields (command.Premium m.value d.value s.value) (m.fits, d.fits, s.fits) (let one = m.spelled in let two = d.spelled in let three = s.spelled in let last = s.more in cc)
    by kind.Alter rest fits e m =
        let d = m.more in
        let s = d.more in
        let r = s.more in
        posted valued fields (command.Alter m.value d.value s.value r.value) (m.fits, d.fits, s.fits, r.fits)
        (let one = m.spelled in let two = d.spelled in let three = s.spelled in let four = r.spelled in let last = r.more in cc)
    by kind.Lapse rest fits e m =
        let d = m.more in
        posted valued fields (command.Lapse m.value d.value) (m.fits, d.fits) (let one = m.spelled in let two = d.spelled in let last = d.more in cc)
    by kind.Reinstate rest fits e m =
        let d = m.more in
        let s = d.more in
        posted valued fields (command.Reinstate m.value d.value s.value) (m.fits, d.fits, s.fits) (let one = m.spelled in let two = d.spelled in let three = s.spelled in let last = s.more in cc)
    by kind.Claim rest fits e m =
        let d = m.more in
        posted valued fields (command.Claim m.value d.value) (m.fits, d.fits) (let one = m.spelled in let two = d.spelled in let last = d.more in cc)
    by kind.Settle rest fits e m =
        let d = m.more in
        let s = d.more in
        posted valued fields (command.Settle m.value d.value s.value) (m.fits, d.fits, s.fits) (let one = m.spelled in let two = d.spelled in let three = s.spelled in let last = s.more in cc)
    by kind.Mature rest fits e m =
        let d = m.more in
        posted valued fields (command.Mature m.value d.value) (m.fits, d.fits) (let one = m.spelled in let two = d.spelled in let last = d.more in cc)
    by kind.PaidUp rest fits e m =
        let d = m.more in
        let s = d.more in
        posted valued fields (command.PaidUp m.value d.value s.value) (m.fits, d.fits, s.fits) (let one = m.spelled in let two = d.spelled in let three = s.spelled in let last = s.more in cc)
    by kind.Upgrade rest fits e m = posted valued fields command.Upgrade tt cc
    by kind.Value rest fits e m =
        let a = m.more in
        let w = a.more in
        record {
          line = Value m.value a.value w.value;
          right = (m.fits, a.fits, w.fits);
          room = λ _. fits;
          spelled = let one = m.spelled in let two = a.spelled in let three = w.spelled in let last = w.more in cc;
        }
    by kind.Trim rest fits e m = record { line = Trim; right = tt; room = λ no. absurd (false≢true no); spelled = cc }

pub of_row_form : (valued : ℕ) (fields : List (List ℕ)) → RowForm valued fields → (entry : ClerkLine) × IsNextRow valued fields entry
of_row_form valued fields h =
    let found = of_form valued h.rest h.more in (
      record { clerk = h.value; line = found.line },
      record {
        is = (
          record { clerk_in = h.fits; right = found.right },
          h.spelled ∙ ap (λ (xs : List (List ℕ)). decimal h.value ∷ xs) found.spelled,
        );
        room = found.room;
      },
    )

fits_up_to : (valued : ℕ) (fields : List (List ℕ)) (n : ℕ) → FitsIn (RowForm valued) fields n → FitsUpTo valued fields n
fits_up_to valued fields n h =
    let found = of_row_form valued h.whole h.right in
    record { entry = found.0; allowed = found.1.is.0; room = found.1.room; same = h.same ∙ ap (take n) found.1.is.1 }

fits_in : (valued : ℕ) (fields : List (List ℕ)) (n : ℕ) → FitsUpTo valued fields n → FitsIn (RowForm valued) fields n
fits_in valued fields n h = record { whole = row_fields h.entry; right = row_form valued h.entry h.allowed h.room; same = h.same }

pub bad_field : (valued : ℕ) (fields : List (List ℕ)) (n place : ℕ) → place ≡ n + 1 → StopsAfter (RowForm valued) fields n → IsFirstBadField valued fields place
bad_field valued fields n place e h =
    let before : n ≡ place - 1 = omega (arith, e) in
    let at : suc n ≡ place = omega (arith, e) in
    record {
      before = subst (λ (m : ℕ). FitsUpTo valued fields m) before (fits_up_to valued fields n h.before);
      bad = λ other. h.bad (fits_in valued fields (suc n) (subst (λ (m : ℕ). FitsUpTo valued fields m) (sym at) other));
    }

pub stopped : {valued : ℕ} {old new : LineFields} → old.asked ≡ 0 → StopsIn (RowForm valued) old new → IsFirstBadField valued (left_of old) new.asked
stopped {valued} {old} {new} none h = bad_field valued (left_of old) h.fitting new.asked (omega (arith, none, h.number)) h.bad

-- a line may come if one of its kind may
room_of : (valued : ℕ) (line : Line) (k : Kind) → kind_of line ≡ k → KindMayStandBehind valued k → MayStandBehind valued line
room_of valued (Post c) k e h = λ no. absurd (false≢true no)
room_of valued (Value on at workers) k e h = λ _. subst (KindMayStandBehind valued) (sym e) h
room_of valued Trim k e h = λ no. absurd (false≢true no)

holds_kind : (k : Kind) (line : Line) (old new : LineFields) → HoldsLine k old new line → kind_of line ≡ k
holds_kind k line old new h =
    let left : take 1 (line_fields line ++ left_of new) ≡ kind_spelling (kind_of line) ∷ [] = ap (λ (xs : List (List ℕ)). take 1 (xs ++ left_of new)) (line_begins line) in
    let right : kind_spelling k ∷ [] ≡ take 1 (line_fields line ++ left_of new) = ap (take 1) h.spelled in
    let words : kind_spelling (kind_of line) ≡ kind_spelling k = cc in
    kind_word_injective (kind_of line) k words

abbrev pub entry_of : ℕ → Line → ClerkLine
entry_of clerk line = record { clerk = clerk; line = line }

-- the fields of a row that is read
pub whole_row : (valued : ℕ) (k : Kind) (line : Line) (clerk : ℕ) {old mid head new : LineFields} → Took (IsClerk clerk) (decimal clerk) old mid → Took (KindMayStandBehind valued k) (kind_spelling k) mid head → HoldsLine k head new line
    → left_of old ≡ row_fields (entry_of clerk line) ++ left_of new
whole_row valued k line clerk {old} {mid} {head} {new} a b h = a.spelled ∙ ap (λ (xs : List (List ℕ)). decimal clerk ∷ xs) (b.spelled ∙ h.spelled)

pub next_row : {valued : ℕ} (k : Kind) (line : Line) (clerk : ℕ) {old mid head new : LineFields} → Took (IsClerk clerk) (decimal clerk) old mid → Took (KindMayStandBehind valued k) (kind_spelling k) mid head → HoldsLine k head new line
    → left_of new ≡ [] → IsNextRow valued (left_of old) (entry_of clerk line)
next_row {valued} k line clerk {old} {mid} {head} {new} a b h none =
    let row : List (List ℕ) = row_fields (entry_of clerk line) in
    record {
      is = (
        record { clerk_in = a.fits; right = h.right },
        whole_row valued k line clerk a b h ∙ ap (λ (xs : List (List ℕ)). row ++ xs) none ∙ append-nil row,
      );
      room = room_of valued line k (holds_kind k line head new h) b.fits;
    }

some_length : (left : List (List ℕ)) → left ≢ [] → 1 ≤ length left
some_length [] some = absurd (some refl)
some_length (x ∷ left) some = omega arith

too_long : (a b : Line) (clerk other : ℕ) (left : List (List ℕ)) → left ≢ []
    → take (suc (length (line_fields a) + 1)) (decimal clerk ∷ (line_fields a ++ left)) ≡ take (suc (length (line_fields a) + 1)) (decimal other ∷ line_fields b) → ⊥
too_long a b clerk other left some e =
    let m = length (line_fields a) + 1 in
    let tails : take m (line_fields a ++ left) ≡ take m (line_fields b) = cc in
    let firsts = sym (take-take 1 m (line_fields a ++ left) (omega arith)) ∙ ap (take 1) tails ∙ take-take 1 m (line_fields b) (omega arith) in
    let sizes : size_of (kind_of a) ≡ size_of (kind_of b) = ap size_of (one_kind a b left firsts) in
    let lengths : length (take m (line_fields a ++ left)) ≡ length (take m (line_fields b)) = ap length tails in
    omega (arith, line_size a, line_size b, sizes, lengths, length-take m (line_fields a ++ left), length-take m (line_fields b), length-append (line_fields a) left, some_length left some)

-- one field too many
pub surplus : (valued : ℕ) (entry : ClerkLine) {fields left : List (List ℕ)} {place : ℕ} → IsClerkLine entry → MayStandBehind valued entry.line → fields ≡ row_fields entry ++ left → left ≢ [] → place ≡ length (line_fields entry.line) + 2
    → IsFirstBadField valued fields place
surplus valued entry {fields} {left} {place} right room e some number =
    let row : List (List ℕ) = row_fields entry in
    let size : length row ≡ place - 1 = omega (arith, number) in
    let next : place ≡ suc (length (line_fields entry.line) + 1) = omega (arith, number) in
    let fits : FitsUpTo valued fields (length row) = record {
      entry = entry;
      allowed = right;
      room = room;
      same = ap (take (length row)) e ∙ take-append-le (length row) row left (omega arith);
    } in
    record {
      before = subst (λ (m : ℕ). FitsUpTo valued fields m) size fits;
      bad = λ other.
          let P : ℕ → Type 0 = λ m. take m fields ≡ take m (row_fields other.entry) in
          let same : take (suc (length (line_fields entry.line) + 1)) fields ≡ take (suc (length (line_fields entry.line) + 1)) (row_fields other.entry) = subst P next other.same in
          too_long entry.line other.entry.line entry.clerk other.entry.clerk left some (ap (take (suc (length (line_fields entry.line) + 1))) (sym e) ∙ same);
    }

-- the same for a row that is read
pub one_more : {valued : ℕ} (k : Kind) (line : Line) (clerk : ℕ) {old mid head new : LineFields} {place : ℕ} → Took (IsClerk clerk) (decimal clerk) old mid → Took (KindMayStandBehind valued k) (kind_spelling k) mid head → HoldsLine k head new line
    → left_of new ≢ [] → place ≡ length (line_fields line) + 2 → IsFirstBadField valued (left_of old) place
one_more {valued} k line clerk {old} {mid} {head} {new} a b h some number =
    surplus valued (entry_of clerk line) record { clerk_in = a.fits; right = h.right } (room_of valued line k (holds_kind k line head new h) b.fits) (whole_row valued k line clerk a b h) some number

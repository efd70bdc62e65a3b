-- The fields of a body that spells a command.
use Rattle.record_codec.proofs.Names.{◌≡◌, ℕ, ◌+◌, List, [], ◌∷◌, get_or, Option, Some, refl, ap, ◌∙◌, arith, ℤ, FitsSigned, to_z-of_z, bytes_of, spelling_of, IsSpelling}
use Rattle.std.specs.Int.{w32, w64, from_be_bytes, to_be_bytes, cast_signed, cast_unsigned}
use Rattle.std.proofs.lemmas.Int.{ints}
use Rattle.std.proofs.lemmas.Nat.{from_be_bytes-to_be_bytes_4, from_be_bytes-to_be_bytes_8}
use Rattle.policy_types.specs.declared.command.Command.{Command}
use Rattle.policy_types.specs.declared.command.Command.TheVariants.{Issue, Premium, Alter, Lapse, Reinstate, Claim, Settle, Mature, PaidUp, Upgrade}
use Rattle.policy_types.specs.declared.command.Plan.TheVariants.{Term, Whole, Endowment, Limited}
use Rattle.policy_types.specs.Valid.{IsValid}
use Rattle.record_codec.specs.declared.fields.RecordFields.{RecordFields}
use Rattle.record_codec.specs.inside.Reading.{fields_of, command_at, AreInRange}

-- the numbers that stand in four and in eight bytes of a body
abbrev pub word_at : List ℕ → ℕ → ℕ
word_at body at =
    from_be_bytes w32 (get_or body at 0 ∷ get_or body (at + 1) 0 ∷ get_or body (at + 2) 0 ∷ get_or body (at + 3) 0 ∷ [])

abbrev pub long_at : List ℕ → ℕ → ℕ
long_at body at =
    from_be_bytes w64 (get_or body at 0 ∷ get_or body (at + 1) 0 ∷ get_or body (at + 2) 0 ∷ get_or body (at + 3) 0 ∷ get_or body (at + 4) 0 ∷ get_or body (at + 5) 0 ∷ get_or body (at + 6) 0 ∷ get_or body (at + 7) 0 ∷ [])

-- what stands at the places of the fields
abbrev pub read_fields : List ℕ → RecordFields
read_fields body = record {
  kind = get_or body 0 0;
  plan = get_or body 1 0;
  age = get_or body 2 0;
  years = get_or body 3 0;
  id = word_at body 4;
  day = cast_signed w32 (word_at body 8);
  amount = long_at body 12;
  premium = long_at body 20;
}

day_back : (day : ℤ) → FitsSigned w32 day → cast_signed w32 (from_be_bytes w32 (to_be_bytes w32 (cast_unsigned w32 day))) ≡ day
day_back day h = ap (cast_signed w32) (from_be_bytes-to_be_bytes_4 (cast_unsigned w32 day) (omega (arith, ints))) ∙ to_z-of_z h

-- a body has its fields at their places
pub read_fields-bytes_of : (body : List ℕ) (f : RecordFields) → AreInRange f → body ≡ bytes_of f → read_fields body ≡ f
read_fields-bytes_of body f h e =
    let id : word_at (bytes_of f) 4 ≡ f.id = from_be_bytes-to_be_bytes_4 f.id h.id_in in
    let day : cast_signed w32 (word_at (bytes_of f) 8) ≡ f.day = day_back f.day h.day_in in
    let amount : long_at (bytes_of f) 12 ≡ f.amount = from_be_bytes-to_be_bytes_8 f.amount h.amount_in in
    let premium : long_at (bytes_of f) 20 ≡ f.premium = from_be_bytes-to_be_bytes_8 f.premium h.premium_in in
    rw e (rw (id, day, amount, premium))

-- the fields of a command are those of no other
pub command_at-fields_of : (c : Command) → command_at (fields_of c) ≡ Some c
command_at-fields_of (Issue id day Term age years amount premium) = refl
command_at-fields_of (Issue id day Whole age years amount premium) = refl
command_at-fields_of (Issue id day Endowment age years amount premium) = refl
command_at-fields_of (Issue id day Limited age years amount premium) = refl
command_at-fields_of (Premium id day amount) = refl
command_at-fields_of (Alter id day amount premium) = refl
command_at-fields_of (Lapse id day) = refl
command_at-fields_of (Reinstate id day amount) = refl
command_at-fields_of (Claim id day) = refl
command_at-fields_of (Settle id day amount) = refl
command_at-fields_of (Mature id day) = refl
command_at-fields_of (PaidUp id day amount) = refl
command_at-fields_of Upgrade = refl

-- a valid command's fields fit their bytes
pub AreInRange-valid : (c : Command) → IsValid c → AreInRange (fields_of c)
AreInRange-valid (Issue id day plan age years amount premium) h = record { id_in = omega (arith, h.id_in); day_in = omega (arith, ints, h.day_in); amount_in = omega (arith, h.amount_in); premium_in = omega (arith, h.premium_in) }
AreInRange-valid (Premium id day amount) h = record { id_in = omega arith; day_in = omega (arith, ints); amount_in = omega arith; premium_in = omega arith }
AreInRange-valid (Alter id day amount premium) h = record { id_in = omega arith; day_in = omega (arith, ints); amount_in = omega arith; premium_in = omega arith }
AreInRange-valid (Lapse id day) h = record { id_in = omega arith; day_in = omega (arith, ints); amount_in = omega arith; premium_in = omega arith }
AreInRange-valid (Reinstate id day amount) h = record { id_in = omega arith; day_in = omega (arith, ints); amount_in = omega arith; premium_in = omega arith }
AreInRange-valid (Claim id day) h = record { id_in = omega arith; day_in = omega (arith, ints); amount_in = omega arith; premium_in = omega arith }
AreInRange-valid (Settle id day amount) h = record { id_in = omega arith; day_in = omega (arith, ints); amount_in = omega arith; premium_in = omega arith }
AreInRange-valid (PaidUp id day amount) h = record { id_in = omega arith; day_in = omega (arith, ints); amount_in = omega arith; premium_in = omega arith }
AreInRange-valid Upgrade h = record { id_in = omega arith; day_in = omega (arith, ints); amount_in = omega arith; premium_in = omega arith }
AreInRange-valid (Mature id day) h = record { id_in = omega arith; day_in = omega (arith, ints); amount_in = omega arith; premium_in = omega arith }

-- the body of a command is that of its fields
pub spelled_fields : (c : Command) → spelling_of c ≡ bytes_of (fields_of c)
unfolding spelling_of
spelled_fields (Issue id day plan age years amount premium) = refl
spelled_fields (Premium id day amount) = refl
spelled_fields (Alter id day amount premium) = refl
spelled_fields (Lapse id day) = refl
spelled_fields (Reinstate id day amount) = refl
spelled_fields (Claim id day) = refl
spelled_fields (Settle id day amount) = refl
spelled_fields (Mature id day) = refl
spelled_fields Upgrade = refl
spelled_fields (PaidUp id day amount) = refl

-- the fields that stand in the body of a command are the command's
pub read_fields-spelling : (body : List ℕ) (c : Command) → IsSpelling body c → command_at (read_fields body) ≡ Some c
read_fields-spelling body c h =
    ap command_at (read_fields-bytes_of body (fields_of c) (AreInRange-valid c h.valid) (h.spelled ∙ spelled_fields c)) ∙ command_at-fields_of c

-- no body spells two commands
pub one_command : (body : List ℕ) (c d : Command) → IsSpelling body c → IsSpelling body d → c ≡ d
one_command body c d h k =
    let first = read_fields-spelling body c h in
    let second = read_fields-spelling body d k in
    cc

-- what is made of the fields that were read is the command that is spelled
pub command_read : (body : List ℕ) (read : RecordFields) (made : Option Command) → ((f : RecordFields) → AreInRange f → body ≡ bytes_of f → read ≡ f) → made ≡ command_at read → (c : Command) → IsSpelling body c → made ≡ Some c
command_read body read made is e c h =
    e ∙ ap command_at (is (fields_of c) (AreInRange-valid c h.valid) (h.spelled ∙ spelled_fields c)) ∙ command_at-fields_of c

-- a body doesn't end in a one
pub last_byte : {body : List ℕ} {c : Command} → IsSpelling body c → get_or body 63 0 ≡ 1 → ⊥
last_byte {body = body} {c = c} h one =
    let last : get_or body 63 0 ≡ 0 = ap (λ b. get_or b 63 0) (h.spelled ∙ spelled_fields c) in omega (arith, last, one)

-- What bytes say is what they were spelled from.
use Rattle.checkpoint_store.proofs.Names.{◌≡◌, ℕ, List, ◌∷◌, take, drop, get_or, Some, refl, sym, ap, subst, ◌∙◌, arith, ℤ, FitsSigned, to_z-of_z, ints, IsSound, Policy, Front, balance_bytes, policy_bytes, position_bytes, status_byte, IsFrontInRange, eight_bytes_at, four_bytes_at, front_in, front_of, plan_of_byte, policy_of_bytes, status_of_byte}
use Rattle.std.specs.Int.{w32, w64, from_be_bytes, to_be_bytes, cast_signed, cast_unsigned}
use Rattle.std.proofs.lemmas.Nat.{from_be_bytes-to_be_bytes_4, from_be_bytes-to_be_bytes_8}
use Rattle.policy_types.specs.declared.command.Plan.{Plan}
use Rattle.policy_types.specs.declared.command.Plan.TheVariants.{Term, Whole, Endowment, Limited}
use Rattle.policy_types.specs.declared.policy.Status.{Status}
use Rattle.policy_types.specs.declared.policy.Status.TheVariants.{InForce, Lapsed, Claimed, Matured, Expired, Settled, PaidUp}
use Rattle.record_codec.specs.Spelling.{plan_byte}

day_back : (day : ℤ) → FitsSigned w32 day → cast_signed w32 (from_be_bytes w32 (to_be_bytes w32 (cast_unsigned w32 day))) ≡ day
day_back day h = ap (cast_signed w32) (from_be_bytes-to_be_bytes_4 (cast_unsigned w32 day) (omega (arith, ints))) ∙ to_z-of_z h

balance_back : (balance : ℤ) → FitsSigned w64 balance → cast_signed w64 (from_be_bytes w64 (to_be_bytes w64 (cast_unsigned w64 balance))) ≡ balance
balance_back balance h = ap (cast_signed w64) (from_be_bytes-to_be_bytes_8 (cast_unsigned w64 balance) (omega (arith, ints))) ∙ to_z-of_z h

-- the figures of a front are those from which it was spelled
front_back : (f : Front) → IsFrontInRange f → front_in (1 ∷ front_of f) ≡ f
unfolding balance_bytes position_bytes
front_back f h =
    let bytes : List ℕ = 1 ∷ front_of f in
    let position : from_be_bytes w32 (four_bytes_at bytes 17) ≡ f.position = from_be_bytes-to_be_bytes_4 f.position h.position_in in
    let upgrade : from_be_bytes w32 (four_bytes_at bytes 21) ≡ f.upgrade = from_be_bytes-to_be_bytes_4 f.upgrade h.upgrade_in in
    let policies : from_be_bytes w32 (four_bytes_at bytes 25) ≡ f.policies = from_be_bytes-to_be_bytes_4 f.policies h.policies_in in
    let cash : cast_signed w64 (from_be_bytes w64 (eight_bytes_at bytes 29)) ≡ f.ledger.cash = balance_back f.ledger.cash h.cash_in in
    let premiums : cast_signed w64 (from_be_bytes w64 (eight_bytes_at bytes 37)) ≡ f.ledger.premiums = balance_back f.ledger.premiums h.premiums_in in
    let incurred : cast_signed w64 (from_be_bytes w64 (eight_bytes_at bytes 45)) ≡ f.ledger.incurred = balance_back f.ledger.incurred h.incurred_in in
    let payable : cast_signed w64 (from_be_bytes w64 (eight_bytes_at bytes 53)) ≡ f.ledger.payable = balance_back f.ledger.payable h.payable_in in
    λ i. record { position = position i; upgrade = upgrade i; policies = policies i; ledger = record { cash = cash i; premiums = premiums i; incurred = incurred i; payable = payable i } }

-- and behind the gate they stand as they were spelled
pub front_behind : (bytes : List ℕ) (f : Front) → bytes ≡ 1 ∷ front_of f → take 63 (drop 1 bytes) ≡ front_of f
unfolding balance_bytes position_bytes
front_behind bytes f is = ap (λ (b : List ℕ). take 63 (drop 1 b)) is

pub front_read : (bytes : List ℕ) (f : Front) → IsFrontInRange f → bytes ≡ 1 ∷ front_of f → front_in bytes ≡ f
front_read bytes f h is = ap front_in is ∙ front_back f h

plan_back : (plan : Plan) → plan_of_byte (plan_byte plan) ≡ Some plan
plan_back Term = refl
plan_back Whole = refl
plan_back Endowment = refl
plan_back Limited = refl

status_back : (status : Status) → status_of_byte (status_byte status) ≡ Some status
status_back InForce = refl
status_back Lapsed = refl
status_back Claimed = refl
status_back Matured = refl
status_back Expired = refl
status_back Settled = refl
status_back PaidUp = refl

-- the policy of 48 bytes is the one from which they were spelled
pub record ReadsBack (bytes : List ℕ) (p : Policy) : Type 0 where
  pub plan : plan_of_byte (get_or bytes 4 0) ≡ Some p.plan
  pub status : status_of_byte (get_or bytes 8 0) ≡ Some p.status
  pub fields : policy_of_bytes bytes p.plan p.status ≡ p

fields_back : (p : Policy) → IsSound p → policy_of_bytes (policy_bytes p) p.plan p.status ≡ p
unfolding policy_bytes
fields_back p sound =
    let bytes : List ℕ = policy_bytes p in
    let issue = sound.issue_in in
    let id : from_be_bytes w32 (four_bytes_at bytes 0) ≡ p.id = from_be_bytes-to_be_bytes_4 p.id (omega (arith, issue.id_in.1)) in
    let issued : cast_signed w32 (from_be_bytes w32 (four_bytes_at bytes 12)) ≡ p.issued = day_back p.issued (omega (arith, ints, issue.day_in.0, issue.day_in.1)) in
    let last : cast_signed w32 (from_be_bytes w32 (four_bytes_at bytes 16)) ≡ p.last = day_back p.last (omega (arith, ints, sound.last_in.0, sound.last_in.1)) in
    let amount : from_be_bytes w64 (eight_bytes_at bytes 20) ≡ p.amount = from_be_bytes-to_be_bytes_8 p.amount (omega (arith, issue.amount_in.1)) in
    let premium : from_be_bytes w64 (eight_bytes_at bytes 28) ≡ p.premium = from_be_bytes-to_be_bytes_8 p.premium (omega (arith, issue.premium_in.1)) in
    let outstanding : from_be_bytes w64 (eight_bytes_at bytes 36) ≡ p.outstanding = from_be_bytes-to_be_bytes_8 p.outstanding (omega (arith, issue.amount_in.1, sound.outstanding_in)) in
    λ i. record { id = id i; plan = p.plan; age = p.age; years = p.years; amount = amount i; premium = premium i; issued = issued i; last = last i; paid = p.paid; status = p.status; outstanding = outstanding i }

policy_back : (p : Policy) → IsSound p → ReadsBack (policy_bytes p) p
unfolding policy_bytes
policy_back p sound = record { plan = plan_back p.plan; status = status_back p.status; fields = fields_back p sound }

pub policy_read : (bytes : List ℕ) (p : Policy) → IsSound p → bytes ≡ policy_bytes p → ReadsBack bytes p
policy_read bytes p sound is = subst (λ b. ReadsBack b p) (sym is) (policy_back p sound)

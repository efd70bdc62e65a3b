-- What the bytes of a checkpoint say at their places
use Rattle.std.specs.Prelude.{ℕ, ◌<◌, ◌^◌, ◌==◌, ◌++◌, if◌then◌else◌, FitsSigned, List, slice_index, Option, Some, None}
use Rattle.checkpoint_store.specs.Names.{w32, w64, cast_signed, from_be_bytes, eight_bytes_at, four_bytes_at, Policy, InForce, Lapsed, Claimed, Matured, Expired, Settled, PaidUp, Status}
use Rattle.policy_types.specs.declared.command.Plan.{Plan}
use Rattle.checkpoint_store.specs.declared.front.Front.{Front}
use Rattle.checkpoint_store.specs.Spelling.{balance_bytes, checkpoint_header, position_bytes}

-- the bytes between the gate and the policies
abbrev pub front_of : Front → List ℕ
front_of f = (checkpoint_header ++ position_bytes f.position f.upgrade f.policies) ++ balance_bytes f.ledger

-- the figures that stand in the first 64 bytes
abbrev pub front_in : List ℕ → Front
front_in bytes = record {
  position = from_be_bytes w32 (four_bytes_at bytes 17);
  upgrade = from_be_bytes w32 (four_bytes_at bytes 21);
  policies = from_be_bytes w32 (four_bytes_at bytes 25);
  ledger = record {
    cash = cast_signed w64 (from_be_bytes w64 (eight_bytes_at bytes 29));
    premiums = cast_signed w64 (from_be_bytes w64 (eight_bytes_at bytes 37));
    incurred = cast_signed w64 (from_be_bytes w64 (eight_bytes_at bytes 45));
    payable = cast_signed w64 (from_be_bytes w64 (eight_bytes_at bytes 53));
  };
}

-- they fit their bytes
pub record IsFrontInRange (f : Front) : Type 0 where
  pub position_in : f.position < 2 ^ 32
  pub upgrade_in : f.upgrade < 2 ^ 32
  pub policies_in : f.policies < 2 ^ 32
  pub cash_in : FitsSigned w64 f.ledger.cash
  pub premiums_in : FitsSigned w64 f.ledger.premiums
  pub incurred_in : FitsSigned w64 f.ledger.incurred
  pub payable_in : FitsSigned w64 f.ledger.payable

-- the status of a byte
abbrev pub status_of_byte : ℕ → Option Status
status_of_byte byte =
    if byte == 1 then Some InForce else if byte == 2 then Some Lapsed
    else if byte == 3 then Some Claimed else if byte == 4 then Some Matured
    else if byte == 5 then Some Expired else if byte == 6 then Some Settled
    else if byte == 7 then Some PaidUp else None

-- the policy that stands in 48 bytes, but for its plan and status
abbrev pub policy_of_bytes : List ℕ → Plan → Status → Policy
policy_of_bytes bytes plan status = record {
  id = from_be_bytes w32 (four_bytes_at bytes 0);
  plan = plan;
  age = slice_index bytes 5;
  years = slice_index bytes 6;
  amount = from_be_bytes w64 (eight_bytes_at bytes 20);
  premium = from_be_bytes w64 (eight_bytes_at bytes 28);
  issued = cast_signed w32 (from_be_bytes w32 (four_bytes_at bytes 12));
  last = cast_signed w32 (from_be_bytes w32 (four_bytes_at bytes 16));
  paid = slice_index bytes 7;
  status = status;
  outstanding = from_be_bytes w64 (eight_bytes_at bytes 36);
}

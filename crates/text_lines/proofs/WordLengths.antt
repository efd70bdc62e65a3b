-- How long the words are.
use Rattle.std.proofs.Common.{◌≤◌, length, arith}
use Rattle.policy_types.specs.Words.{status_word}
use Rattle.policy_types.specs.declared.policy.Status.{Status}
use Rattle.policy_types.specs.declared.policy.Status.TheVariants.{InForce, Lapsed, Claimed, Matured, Expired, Settled, PaidUp}

pub short_status : (status : Status) → length (status_word status) ≤ 7
short_status InForce = omega arith
short_status Lapsed = omega arith
short_status Claimed = omega arith
short_status Matured = omega arith
short_status Expired = omega arith
short_status Settled = omega arith
short_status PaidUp = omega arith

-- The words of scripts, transcripts and statements
use Rattle.std.specs.Prelude.{ℕ, List, codes}
use Rattle.policy_types.specs.declared.command.Command.{Command}
use Rattle.policy_types.specs.declared.command.Command.TheVariants.{Issue, Premium, Alter, Lapse, Reinstate, Claim, Settle, Mature, PaidUp, Upgrade}
use Rattle.policy_types.specs.declared.command.Plan.{Plan}
use Rattle.policy_types.specs.declared.command.Plan.TheVariants.{Term, Whole, Endowment, Limited}
use Rattle.policy_types.specs.declared.policy.Status.{Status}
use Rattle.policy_types.specs.declared.policy.Status.TheVariants.{InForce, Lapsed, Claimed, Matured, Expired, Settled, PaidUp as PaidUpStatus}

-- a command's kind
abbrev pub kind_word : Command → List ℕ
kind_word (Issue id day plan age years amount premium) = codes "issue"
kind_word (Premium id day amount) = codes "premium"
kind_word (Alter id day amount premium) = codes "alter"
kind_word (Lapse id day) = codes "lapse"
kind_word (Reinstate id day amount) = codes "reinstate"
kind_word (Claim id day) = codes "claim"
kind_word (Settle id day amount) = codes "settle"
kind_word (Mature id day) = codes "mature"
kind_word (PaidUp id day amount) = codes "paidup"
kind_word Upgrade = codes "upgrade"

-- a plan's name
abbrev pub plan_word : Plan → List ℕ
plan_word Term = codes "term"
plan_word Whole = codes "whole"
plan_word Endowment = codes "endowment"
plan_word Limited = codes "limited"

abbrev pub status_word : Status → List ℕ
status_word InForce = codes "inforce"
status_word Lapsed = codes "lapsed"
status_word Claimed = codes "claimed"
status_word Matured = codes "matured"
status_word Expired = codes "expired"
status_word Settled = codes "settled"
status_word PaidUpStatus = codes "paidup"

-- Which commands are valid: every field within the limits of the office
use Rattle.std.specs.Prelude.{◌≡◌, ℕ, ◌≤◌, ◌+◌, pos, negsuc, ◌≤ℤ◌, ℤ, Bool, true, false, Some, None, Option}
use Rattle.policy_types.specs.declared.command.Command.{Command}
use Rattle.policy_types.specs.declared.command.Command.TheVariants.{Issue, Premium, Alter, Lapse, Reinstate, Claim, Settle, Mature, PaidUp, Upgrade}
use Rattle.policy_types.specs.declared.command.Plan.{Plan}
use Rattle.policy_types.specs.declared.command.Plan.TheVariants.{Whole}

-- the number of the policy that a command names; an upgrade names none, and has 0, which is no policy's number
abbrev pub id_of : Command → ℕ
id_of (Issue id day plan age years amount premium) = id
id_of (Premium id day amount) = id
id_of (Alter id day amount premium) = id
id_of (Lapse id day) = id
id_of (Reinstate id day amount) = id
id_of (Claim id day) = id
id_of (Settle id day amount) = id
id_of (Mature id day) = id
id_of (PaidUp id day amount) = id
id_of Upgrade = 0

abbrev pub is_upgrade : Command → Bool
is_upgrade Upgrade = true
is_upgrade _ = false

-- the day on which a command takes effect; an upgrade has none
abbrev pub day_of : Command → Option ℤ
day_of (Issue id day plan age years amount premium) = Some day
day_of (Premium id day amount) = Some day
day_of (Alter id day amount premium) = Some day
day_of (Lapse id day) = Some day
day_of (Reinstate id day amount) = Some day
day_of (Claim id day) = Some day
day_of (Settle id day amount) = Some day
day_of (Mature id day) = Some day
day_of (PaidUp id day amount) = Some day
day_of Upgrade = None

-- a policy's number
abbrev pub IsId : ℕ → Type 0
IsId id = (1 ≤ id) × (id ≤ 4294967295)

-- from 1900-01-01 to 2199-12-31, in days since 1970-01-01
abbrev pub IsCommandDay : ℤ → Type 0
IsCommandDay day = (negsuc 25566 ≤ℤ day) × (day ≤ℤ pos 84005)

-- an amount of insurance, a premium or a payment: from one cent to 100,000,000.00
abbrev pub IsAmount : ℕ → Type 0
IsAmount cents = (1 ≤ cents) × (cents ≤ 10000000000)

-- a payment to reinstate, which may be four times as much
abbrev pub IsReinstatement : ℕ → Type 0
IsReinstatement cents = (1 ≤ cents) × (cents ≤ 40000000000)

-- an age at issue
abbrev pub IsIssueAge : ℕ → Type 0
IsIssueAge age = age ≤ 129

-- the years of a plan: 0 for whole life, else at least 2 that end at the age 131 or before
abbrev pub AreYears : Plan → ℕ → ℕ → Type 0
AreYears Whole age years = years ≡ 0
AreYears _ age years = (2 ≤ years) × (age + years ≤ 131)

-- a valid issue: each field within its limits
pub record IsIssue (id : ℕ) (day : ℤ) (plan : Plan) (age years amount premium : ℕ) : Type 0 where
  pub id_in : IsId id
  pub day_in : IsCommandDay day
  pub age_in : IsIssueAge age
  pub years_in : AreYears plan age years
  pub amount_in : IsAmount amount
  pub premium_in : IsAmount premium

-- a command whose fields lie within their limits; an upgrade has none, and is valid
abbrev pub IsValid : Command → Type 0
IsValid (Issue id day plan age years amount premium) = IsIssue id day plan age years amount premium
IsValid (Premium id day amount) = IsId id × IsCommandDay day × IsAmount amount
IsValid (Alter id day amount premium) = IsId id × IsCommandDay day × IsAmount amount × IsAmount premium
IsValid (Lapse id day) = IsId id × IsCommandDay day
IsValid (Reinstate id day amount) = IsId id × IsCommandDay day × IsReinstatement amount
IsValid (Claim id day) = IsId id × IsCommandDay day
IsValid (Settle id day amount) = IsId id × IsCommandDay day × IsAmount amount
IsValid (Mature id day) = IsId id × IsCommandDay day
IsValid (PaidUp id day amount) = IsId id × IsCommandDay day × IsAmount amount
IsValid Upgrade = Unit {0}

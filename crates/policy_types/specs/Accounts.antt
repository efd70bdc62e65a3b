-- What an accepted command books on the four accounts, in cents. The four amounts of a booking add up to 0
use Rattle.std.specs.Prelude.{ℕ, ℤ, pos, ◌+ℤ◌, ◌-ℤ◌, ◌≤ℤ◌, if◌then◌else◌}
use Rattle.policy_types.specs.contracts.policy.StatusPartialEq.TheImpl.{eq-value as status_eq}
use Rattle.policy_types.specs.declared.command.Command.{Command}
use Rattle.policy_types.specs.declared.command.Command.TheVariants.{Issue, Premium, Alter, Lapse, Reinstate, Claim, Settle, Mature, PaidUp, Upgrade}
use Rattle.policy_types.specs.declared.policy.Policy.{Policy}
use Rattle.policy_types.specs.declared.policy.Status.TheVariants.{Matured}

-- what is booked on each account: cash, premiums earned, benefits incurred, benefits payable
pub record Booking : Type 0 where
  pub cash : ℤ
  pub premiums : ℤ
  pub incurred : ℤ
  pub payable : ℤ

-- the number of cents on the other side of an account
abbrev pub against : ℕ → ℤ
against cents = pos 0 -ℤ pos cents

abbrev pub nothing_booked : Booking
nothing_booked = record { cash = pos 0; premiums = pos 0; incurred = pos 0; payable = pos 0 }

-- a payment of premiums
abbrev pub premium_received : ℕ → Booking
premium_received cents = record { cash = pos cents; premiums = against cents; incurred = pos 0; payable = pos 0 }

-- a benefit falls due
abbrev pub benefit_incurred : ℕ → Booking
benefit_incurred cents = record { cash = pos 0; premiums = pos 0; incurred = pos cents; payable = against cents }

-- a benefit is paid out, or a part of it
abbrev pub benefit_paid : ℕ → Booking
benefit_paid cents = record { cash = against cents; premiums = pos 0; incurred = pos 0; payable = pos cents }

-- what a command books, by the policy as the command has left it: at the end of its term a policy has matured or has
-- expired
abbrev pub booking_of : Command → Policy → Booking
booking_of (Issue id day plan age years amount premium) after = nothing_booked
booking_of (Premium id day amount) after = premium_received amount
booking_of (Alter id day amount premium) after = nothing_booked
booking_of (Lapse id day) after = nothing_booked
booking_of (Reinstate id day amount) after = premium_received amount
booking_of (Claim id day) after = benefit_incurred after.amount
booking_of (Settle id day amount) after = benefit_paid amount
booking_of (Mature id day) after = if status_eq.it after.status Matured then benefit_incurred after.amount else nothing_booked
booking_of (PaidUp id day amount) after = nothing_booked
booking_of Upgrade after = nothing_booked

-- two bookings added up, account by account
abbrev pub added : Booking → Booking → Booking
added a b = record {
  cash = a.cash +ℤ b.cash;
  premiums = a.premiums +ℤ b.premiums;
  incurred = a.incurred +ℤ b.incurred;
  payable = a.payable +ℤ b.payable;
}

-- the sum of the four accounts
abbrev pub sum_of : Booking → ℤ
sum_of b = b.cash +ℤ b.premiums +ℤ b.incurred +ℤ b.payable

-- an account is at most so many cents, on either side
abbrev pub IsWithin : ℕ → ℤ → Type 0
IsWithin most balance = (against most ≤ℤ balance) × (balance ≤ℤ pos most)

-- no account is more than so many cents
abbrev pub AreWithin : ℕ → Booking → Type 0
AreWithin most b = IsWithin most b.cash × IsWithin most b.premiums × IsWithin most b.incurred × IsWithin most b.payable

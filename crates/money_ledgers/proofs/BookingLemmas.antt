-- Bookings that are the same account by account
use Rattle.std.proofs.Common.{◌≡◌, ℤ}
use Rattle.policy_types.specs.Accounts.{Booking}

abbrev booking : (cash premiums incurred payable : ℤ) → Booking
booking cash premiums incurred payable =
    record { cash = cash; premiums = premiums; incurred = incurred; payable = payable }

pub same_booking : {a b c d e f g h : ℤ} → a ≡ e → b ≡ f → c ≡ g → d ≡ h → booking a b c d ≡ booking e f g h
same_booking cash premiums incurred payable = rw (cash, premiums, incurred, payable)

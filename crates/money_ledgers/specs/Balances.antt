-- What a ledger holds
use Rattle.std.specs.Prelude.{◌-◌, ◌^◌}
use Rattle.policy_types.specs.Accounts.{Booking, AreWithin}
use Rattle.money_ledgers.specs.declared.ledger.Ledger.{Ledger}

-- its four balances
abbrev pub balances : Ledger → Booking
balances ledger = record {
  cash = ledger.cash;
  premiums = ledger.premiums;
  incurred = ledger.incurred;
  payable = ledger.payable;
}

-- every account can take one more booking, which is at most 4 * 10^10 cents
abbrev pub HasRoom : Ledger → Type 0
HasRoom ledger = AreWithin (2 ^ 63 - 1 - 40000000000) (balances ledger)

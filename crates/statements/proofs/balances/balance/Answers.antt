use Rattle.std.proofs.Common.{rules, ◌≡◌, ℕ, ◌++◌, codes, refl}
use Rattle.money_ledgers.specs.Balances.{balances}
use Rattle.policy_types.specs.Accounts.{Booking}
use Rattle.statements.specs.Statements.{balance_text}
use Rattle.statements.specs.inside.Balances.{account_line, count_text}
use Rattle.statements.proofs.balances.balance.Goals as goal

in_lines : (ledger : Booking) (count : ℕ) → balance_text ledger count
    ≡ account_line (codes "cash") ledger.cash ++ account_line (codes "premiums") ledger.premiums
    ++ account_line (codes "incurred") ledger.incurred ++ account_line (codes "payable") ledger.payable
    ++ count_text count
unfolding balance_text account_line count_text
in_lines ledger count = refl

pub returns : goal.returns
returns c = rw (in_lines (balances c.args.ledger.now) c.args.count) (search rules)

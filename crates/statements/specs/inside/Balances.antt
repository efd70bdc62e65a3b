-- The lines of which the text of the balances is made
use Rattle.std.specs.Prelude.{ℕ, ℤ, List, [], ◌∷◌, codes, decimal}
use Rattle.statements.specs.Names.{line_of}
use Rattle.money_core.specs.CentsText.{signed_cents_text}

-- the line of one account
unfoldable pub account_line : List ℕ → ℤ → List ℕ
account_line account balance = line_of (codes "balance") (account ∷ signed_cents_text balance ∷ [])

-- the line of the number of accepted commands
unfoldable pub count_text : ℕ → List ℕ
count_text count = line_of (codes "count") (decimal count ∷ [])

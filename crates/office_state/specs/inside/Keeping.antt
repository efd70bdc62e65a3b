-- The versions and the ledger that are kept of the accepted commands
use Rattle.std.specs.Prelude.{◌≡◌, ℕ, ◌≤◌, List, [], ◌∷◌, ◌++◌, length}
use Rattle.std.specs.Coded.{×_prop, Unit-prop}
use Rattle.office_state.specs.Names.{AllByRecursion, Command, Issue, Premium, Alter, Lapse, Reinstate, Claim, Settle, Mature, PaidUp, Upgrade, Policy, IsValid, balances, ledger_of, IsAccepted, IsAcceptedAfter, upgrade_of, IsBookOf, IsBookOf-prop, Term, Whole, Endowment, Limited, most_commands}
use Rattle.std.proofs.Props.{props}
use Rattle.money_ledgers.specs.declared.ledger.Ledger.{Ledger}
use Rattle.office_state.specs.versions.Commands.{sets_of}
use Rattle.versioned_book.specs.declared.book.VersionedBook.{VersionedBook}

-- The commands are accepted one after the other. Each of them except an upgrade set the version of its policy at its
-- own number, counted from 1; the last of them is the last that the versions saw; and the balances are theirs.
pub record Keeps (versions : VersionedBook Policy) (count upgrade : ℕ) (ledger : Ledger) (commands : List Command) : Type 0 where
  pub valid : AllByRecursion IsValid commands
  pub accepted : IsAccepted commands
  pub few : length commands ≤ most_commands
  pub counted : count ≡ length commands
  pub upgraded : upgrade ≡ upgrade_of commands
  pub set : IsBookOf versions (sets_of commands)
  pub last : versions.last ≡ length commands
  pub booked : balances ledger ≡ ledger_of commands

IsValid-prop : (command : Command) → IsProp (IsValid command)
IsValid-prop (Issue id day Whole age years amount premium) = Prim.hlevel props
IsValid-prop (Issue id day Term age years amount premium) = Prim.hlevel props
IsValid-prop (Issue id day Endowment age years amount premium) = Prim.hlevel props
IsValid-prop (Issue id day Limited age years amount premium) = Prim.hlevel props
IsValid-prop (Premium id day amount) = Prim.hlevel props
IsValid-prop (Alter id day amount premium) = Prim.hlevel props
IsValid-prop (Lapse id day) = Prim.hlevel props
IsValid-prop (Reinstate id day amount) = Prim.hlevel props
IsValid-prop (Claim id day) = Prim.hlevel props
IsValid-prop (Settle id day amount) = Prim.hlevel props
IsValid-prop (Mature id day) = Prim.hlevel props
IsValid-prop (PaidUp id day amount) = Prim.hlevel props
IsValid-prop Upgrade = Prim.hlevel props

IsAcceptedAfter-prop : (before commands : List Command) → IsProp (IsAcceptedAfter before commands)
IsAcceptedAfter-prop before [] = Unit-prop
IsAcceptedAfter-prop before (command ∷ commands) = ×_prop (Prim.hlevel props) (IsAcceptedAfter-prop (before ++ command ∷ []) commands)

set-prop : (versions : VersionedBook Policy) (commands : List Command) → IsProp (IsBookOf versions (sets_of commands))
set-prop versions commands = IsBookOf-prop (Prim.hlevel props) versions (sets_of commands)

-- it has at most one proof
pub Keeps-prop : (versions : VersionedBook Policy) (count upgrade : ℕ) (ledger : Ledger) (commands : List Command)
    → IsProp (Keeps versions count upgrade ledger commands)
Keeps-prop versions count upgrade ledger commands = Prim.hlevel (props, IsValid-prop, IsAcceptedAfter-prop, set-prop)

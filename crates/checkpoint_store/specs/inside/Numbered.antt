-- What the books by number are the books of, for the contracts of the steps alone
use Rattle.std.specs.Prelude.{◌≡◌, nat_eq, ◌+◌, List}
use Rattle.checkpoint_store.specs.Names.{AllByRecursion, IsDistinct, keys_of, balances, IsAccepted, added, booking_of, Command, Policy, IsValid, id_of, insert_entry}
use Rattle.checkpoint_store.specs.declared.numbered.NumberedBooks.{NumberedBooks}
use Rattle.checkpoint_store.specs.declared.snapshot.Snapshot.{Snapshot}
use Rattle.checkpoint_store.specs.Checkpoints.{IsSnapshotOf, IsSoundSnapshot}
use Rattle.checkpoint_store.specs.inside.Books.{AreKeyed, numbered_policies}

abbrev pub as_snapshot : NumberedBooks → Snapshot
as_snapshot books = record {
  position = books.position;
  upgrade = books.upgrade;
  ledger = books.ledger;
  book = numbered_policies books.policies.entries;
}

-- each policy stands under its own number, and together they are a sound snapshot
pub record AreSoundBooks (books : NumberedBooks) : Type 0 where
  pub keyed : AreKeyed books.policies.entries
  pub sound : IsSoundSnapshot (as_snapshot books)

-- the books are those of these commands
pub record AreBooksOf (commands : List Command) (books : NumberedBooks) : Type 0 where
  pub valid : AllByRecursion IsValid commands
  pub accepted : IsAccepted commands
  pub snapshot : IsSnapshotOf commands (as_snapshot books)

-- the policy that a command left was set
pub record HasSetPolicy (old new : NumberedBooks) (command : Command) (policy : Policy) : Type 0 where
  pub entries : new.policies.entries ≡ insert_entry nat_eq old.policies.entries (id_of command) policy
  pub distinct : IsDistinct nat_eq (keys_of new.policies.entries)
  pub position : new.position ≡ old.position + 1
  pub upgrade : new.upgrade ≡ old.upgrade
  pub ledger : balances new.ledger ≡ added (balances old.ledger) (booking_of command policy)

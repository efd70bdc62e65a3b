-- What is seen of the books
use Rattle.std.specs.Prelude.{◌≡◌, ℕ, List, filter_map}
use Rattle.indexmap.specs.IndexMap.{keys}
use Rattle.office_state.specs.Names.{Command, Policy, balances, id_of, CanSet, IsPlaceIn, kept_of, versions_in, newest_of, Booking}
use Rattle.versioned_book.specs.declared.place.KeyPlace.{KeyPlace}
use Rattle.office_state.specs.declared.books.Books.{Books}

-- the commands for which they stand, in order
abbrev pub commands_in : Books → List Command
commands_in books = books.accepted.commands

-- the newest version of each policy, in order of issue
abbrev pub policies_in : Books → List Policy
policies_in books = filter_map (λ (id : ℕ). newest_of (versions_in books.versions id)) (keys books.versions.chains)

abbrev pub balances_in : Books → Booking
balances_in books = balances books.ledger

-- the position from which on each policy is kept
abbrev pub floor_in : Books → ℕ
floor_in books = books.versions.floor

-- how many versions are kept
abbrev pub kept_in : Books → ℕ
kept_in books = kept_of books.versions

-- where the versions of the command's policy are, or that there are none
abbrev pub IsPlaceOf : Books → KeyPlace → Command → Type 0
IsPlaceOf books place command = IsPlaceIn books.versions place × (place.key ≡ id_of command)

-- one more command with a policy's number needs no further memory
abbrev pub CanKeep : Books → ℕ → Type 0
CanKeep books id = CanSet books.versions id

-- The most looks that finding one version takes: 2 ^ 22 is at most twice the most commands, plus one, and 2 ^ 23
-- isn't.
abbrev pub looks_at_most : ℕ
looks_at_most = 22

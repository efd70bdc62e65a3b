-- What reading a checkpoint's file tells
use Rattle.std.specs.Prelude.{◌≡◌, nat_eq, ℕ, ◌+◌, ◌*◌, ◌≤◌, Bool, true, false, List, [], ◌∷◌, ◌++◌, length, map, take, drop, Option, Some, None}
use Rattle.checkpoint_store.specs.Names.{AllByRecursion, IsDistinct, flat_map, keys_of, lookup, balances, IsSound, AreWithin, most_commands, Policy}
use Rattle.checkpoint_store.specs.declared.front.Front.{Front}
use Rattle.checkpoint_store.specs.declared.numbered.NumberedBooks.{NumberedBooks}
use Rattle.checkpoint_store.specs.declared.snapshot.Snapshot.{Snapshot}
use Rattle.checkpoint_store.specs.Checkpoints.{CheckpointBytes}
use Rattle.checkpoint_store.specs.Spelling.{policy_bytes}
use Rattle.checkpoint_store.specs.inside.Books.{AreKeyed, numbered_policies}
use Rattle.checkpoint_store.specs.inside.Numbered.{as_snapshot}
use Rattle.checkpoint_store.specs.inside.Parsing.{IsFrontInRange, front_of}

-- the figures are those of a snapshot
pub record DoFit (f : Front) : Type 0 where
  pub position_in : f.position ≤ most_commands
  pub upgrade_in : f.upgrade ≤ f.position
  pub policies_in : f.policies ≤ f.position
  pub balances_in : AreWithin (40000000000 * f.position) (balances f.ledger)

-- these figures stand behind an open gate, and there is room for their policies
pub record HasFront (file : List ℕ) (f : Front) : Type 0 where
  pub spelled : take 64 file ≡ 1 ∷ front_of f
  pub long : 64 + 48 * f.policies ≤ length file

-- they do, and no others
abbrev pub IsFrontOn : List ℕ → Option Front → Type 0
IsFrontOn file (Some f) = HasFront file f × ((other : Front) → IsFrontInRange other → HasFront file other → other ≡ f)
IsFrontOn file None = (f : Front) → IsFrontInRange f → HasFront file f → ⊥

-- the numbers of the policies
abbrev pub policy_ids : List Policy → List ℕ
policy_ids policies = map (λ (p : Policy). p.id) policies

-- so many sound policies, each of its own number, stand from byte 64 on
pub record HasPolicies (file : List ℕ) (many : ℕ) (policies : List Policy) : Type 0 where
  pub counted : length policies ≡ many
  pub spelled : take (48 * many) (drop 64 file) ≡ flat_map policy_bytes policies
  pub sound : AllByRecursion IsSound policies
  pub distinct : IsDistinct nat_eq (policy_ids policies)

-- a policy was added to the books
pub record IsAddedTo (bytes : List ℕ) (old new : NumberedBooks) : Type 0 where
  pub policy : Policy
  pub sound : IsSound policy
  pub spelled : bytes ≡ policy_bytes policy
  pub entries : new.policies.entries ≡ old.policies.entries ++ (policy.id, policy) ∷ []
  pub distinct : IsDistinct nat_eq (keys_of new.policies.entries)
  pub position : new.position ≡ old.position
  pub upgrade : new.upgrade ≡ old.upgrade
  pub ledger : new.ledger ≡ old.ledger

-- or the bytes spell none of a new number
abbrev pub WasAdded : List ℕ → NumberedBooks → NumberedBooks → Bool → Type 0
WasAdded bytes old new true = IsAddedTo bytes old new
WasAdded bytes old new false =
    (policy : Policy) → IsSound policy → bytes ≡ policy_bytes policy
    → lookup (nat_eq policy.id) old.policies.entries ≡ None → ⊥

-- the books have these figures and so many sound policies, each of its own number
pub record AreBegun (f : Front) (index : ℕ) (books : NumberedBooks) : Type 0 where
  pub position : books.position ≡ f.position
  pub upgrade : books.upgrade ≡ f.upgrade
  pub ledger : books.ledger ≡ f.ledger
  pub counted : length (numbered_policies books.policies.entries) ≡ index
  pub keyed : AreKeyed books.policies.entries
  pub sound : AllByRecursion IsSound (numbered_policies books.policies.entries)
  pub distinct : IsDistinct nat_eq (keys_of books.policies.entries)

-- those are what stands in the file, and nothing else can stand there
pub record AreUpTo (file : List ℕ) (f : Front) (index : ℕ) (books : NumberedBooks) : Type 0 where
  pub spelled : take (48 * index) (drop 64 file) ≡ flat_map policy_bytes (numbered_policies books.policies.entries)
  pub only : (policies : List Policy) → HasPolicies file f.policies policies
      → take index policies ≡ numbered_policies books.policies.entries

abbrev pub HasNoPolicies : List ℕ → Front → Type 0
HasNoPolicies file f = (policies : List Policy) → HasPolicies file f.policies policies → ⊥

-- the policies up to an index were added, or there are none
abbrev pub UpToNext : List ℕ → Front → ℕ → NumberedBooks → Bool → Type 0
UpToNext file f index books true = AreUpTo file f index books
UpToNext file f index books false = HasNoPolicies file f

abbrev pub BegunNext : Front → ℕ → NumberedBooks → Bool → Type 0
BegunNext f index books true = AreBegun f index books
BegunNext f index books false = Unit {0}

-- these bytes begin with those of so many policies in the file, from that of an index on
abbrev pub AreBytesOf : List ℕ → (first many : ℕ) → List ℕ → Type 0
AreBytesOf file first many bytes = take (48 * many) bytes ≡ take (48 * many) (drop (64 + 48 * first) file)

-- the books have these figures, and the policies behind them
pub record HasBooks (file : List ℕ) (f : Front) (books : NumberedBooks) : Type 0 where
  pub position : books.position ≡ f.position
  pub upgrade : books.upgrade ≡ f.upgrade
  pub ledger : books.ledger ≡ f.ledger
  pub policies : HasPolicies file f.policies (numbered_policies books.policies.entries)

abbrev pub AreBooksBehind : List ℕ → Front → Option NumberedBooks → Type 0
AreBooksBehind file f (Some books) = HasBooks file f books
AreBooksBehind file f None = HasNoPolicies file f

-- the books of the file's checkpoint, where it has one whose position isn't above the count
abbrev pub IsStored : List ℕ → ℕ → Option NumberedBooks → Type 0
IsStored file count (Some books) = CheckpointBytes file (as_snapshot books)
IsStored file count None = (s : Snapshot) → CheckpointBytes file s → s.position ≤ count → ⊥

-- Short names for classes of replies
use Rattle.std.specs.Prelude.{◌≡◌, ◌≢◌, ℕ, List, slice_get, None, Some}
use Rattle.policy_types.specs.declared.entry.Entry.{Entry}
use Rattle.policy_types.specs.declared.entry.Reply.{Reply}
use Rattle.policy_types.specs.declared.entry.Reply.TheVariants.{Blank, Pinned}
use Rattle.policy_machine.specs.History.{fault_of}

-- neither a fault nor blank
abbrev pub IsAnswered : Reply → Type 0
IsAnswered reply = (fault_of reply ≡ None) × (reply ≢ Blank)

abbrev pub IsUnfaulted : Reply → Type 0
IsUnfaulted reply = fault_of reply ≡ None

abbrev pub IsPinned : Reply → Type 0
IsPinned reply = (position policies : ℕ) × (reply ≡ Pinned position policies)

abbrev pub HasBlank : List Entry → Type 0
HasBlank history = (n : ℕ) × ((entry : Entry) × (slice_get history n ≡ Some entry) × (entry.reply ≡ Blank))

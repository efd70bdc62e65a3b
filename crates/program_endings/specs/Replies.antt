-- What the replies of a history say of how it ends
use Rattle.std.specs.Prelude.{◌≡◌, ◌≢◌, ℕ, ◌⊎◌, List, [], slice_get, None, Some}
use Rattle.std.specs.List.{AllByRecursion, Contains}
use Rattle.policy_types.specs.declared.command.Command.{Command}
use Rattle.policy_machine.specs.History.{fault_of}
use Rattle.office_state.specs.Images.{WasFaulted}
use Rattle.program_endings.specs.Names.{Entry, Pinned, Blank}

-- each number is the place of a pin
abbrev pub ArePins : List Entry → List ℕ → Type 0
ArePins history numbers =
    AllByRecursion (λ (n : ℕ). (entry : Entry) × (slice_get history n ≡ Some entry)
    × ((position policies : ℕ) × (entry.reply ≡ Pinned position policies))) numbers

-- every posting was answered, accepted or refused, and every valuation found memory
abbrev pub AreAnswered : List Entry → List ℕ → Type 0
AreAnswered history dry =
    AllByRecursion (λ (entry : Entry). (fault_of entry.reply ≡ None) × (entry.reply ≢ Blank)) history × (dry ≡ [])

-- the disk failed in no posting, and memory was refused for a posting, whose reply is blank, or for a valuation
abbrev pub LackMemory : List Entry → List ℕ → Type 0
LackMemory history dry =
    AllByRecursion (λ (entry : Entry). fault_of entry.reply ≡ None) history
    × (((n : ℕ) × ((entry : Entry) × (slice_get history n ≡ Some entry) × (entry.reply ≡ Blank))) ⊎ ((pin : ℕ) × Contains dry pin))

-- the disk failed in a posting
abbrev pub HaveAFault : List Entry → Type 0
HaveAFault history = (held : List Command) × ((command : Command) × WasFaulted history held command)

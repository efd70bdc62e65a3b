-- Histories: lists of entries, one for each turn, in the order in which the turns were handed on
use Rattle.std.specs.Prelude.{◌≡◌, ℕ, ◌==◌, nat_lt, if◌then◌else◌, List, ◌++◌, length}
use Rattle.turn_lock.specs.Names.{filter, Entry}

-- the entries of one caller, in order
abbrev pub entries_of : List Entry → ℕ → List Entry
entries_of history caller = filter (λ entry. entry.caller == caller) history

-- the history begins with what was seen of it
abbrev pub StartsWith : List Entry → List Entry → Type 0
StartsWith history seen = (rest : List Entry) × (history ≡ seen ++ rest)

-- the longer of two lists, or the first where they are as long
abbrev pub longer : List Entry → List Entry → List Entry
longer one other = if nat_lt (length one) (length other) then other else one

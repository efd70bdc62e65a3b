-- What is known of a file of each kind.
use Rattle.std.specs.Prelude.{◌≡◌, ℕ, ◌≤◌, false, List, length, IsTrue}
use Rattle.posting_journal.specs.Files.{IsMade}
use Rattle.posting_journal.specs.Creation.{IsBegun, IsToBegin, IsUnfinished, IsForeign}
use Rattle.posting_journal.specs.declared.judging.FileKind.{FileKind}
use Rattle.posting_journal.specs.declared.judging.FileKind.TheVariants.{Unfinished, Foreign, Made}

abbrev pub IsOfKind : List ℕ → FileKind → Type 0
IsOfKind bytes (Unfinished begun) =
    IsUnfinished bytes × (IsTrue begun → IsBegun bytes) × (begun ≡ false → IsToBegin bytes)
IsOfKind bytes Foreign = IsForeign bytes
IsOfKind bytes Made = IsMade bytes × (18 ≤ length bytes) × (¬ IsUnfinished bytes)

-- a file that was made is long enough for the header and a gate
abbrev pub IsLongIfMade : ℕ → FileKind → Type 0
IsLongIfMade size Made = 18 ≤ size
IsLongIfMade size kind = Unit {0}

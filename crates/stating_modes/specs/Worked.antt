-- Worked texts of an empty file, over one disk and over two, put down by hand from the format
use Rattle.std.specs.Prelude.{◌≡◌, [], ◌∷◌, ◌++◌, codes, pos, negsuc, ◌⊎◌, ℕ, List, length}
use Rattle.stating_modes.specs.Names.{Ghosts, book, ledger_of, Stream, WroteAll, WroteLine, CheckpointBytes, IsNoCheckpoint, Snapshot, BadJournal, DiskFault, Done, sum_of}
use Rattle.stating_modes.specs.Books.{books_text, policy_account}
use Rattle.stating_modes.specs.Saved.{EndsCheckpoint}
use Rattle.stating_modes.specs.Stated.{EndsStateKept}
use Rattle.stating_modes.specs.Stating.{EndsState}
use Rattle.stating_modes.specs.TwoDisks.{AreTrue, TellsTruth, TwoDisks}

-- over any disk: for an empty file `state` writes four balances of 0.00 and no commands
abbrev pub StatesAnEmptyFile : {D : Type 0} → Ghosts D → Type 0
StatesAnEmptyFile {D} g = (old new : D) (output : Stream) → g.honest new → g.reads old ≡ []
    → EndsState g old new (λ commands. books_text (book commands) (ledger_of commands) (length commands)) output Done
    → WroteAll output (codes "balance,cash,0.00" ++ (10 ∷ []) ++ codes "balance,premiums,0.00" ++ (10 ∷ [])
    ++ codes "balance,incurred,0.00" ++ (10 ∷ []) ++ codes "balance,payable,0.00" ++ (10 ∷ []) ++ codes "count,0" ++ 10 ∷ [])

-- and `state 7` writes that there is no policy with this number
abbrev pub KnowsNobody : {D : Type 0} → Ghosts D → Type 0
KnowsNobody {D} g = (old new : D) (output : Stream) → g.honest new → g.reads old ≡ []
    → EndsState g old new (policy_account 7) output Done → WroteAll output (codes "unknown,7" ++ 10 ∷ [])

-- each of the four balances is added, with its sign: 400.00 paid, 1000.00 claimed, 250.00 of which are settled
abbrev pub FourBalances : Type 0
FourBalances = (sum_of (record { cash = pos 15000; premiums = negsuc 39999; incurred = pos 100000; payable = negsuc 74999 }) ≡ pos 0)
    × (sum_of (record { cash = pos 1; premiums = pos 20; incurred = pos 300; payable = pos 4000 }) ≡ pos 4321)

-- over any disks: for an empty file `state` writes four balances of 0.00 and no commands, and `checkpoint` saves a
-- snapshot of none
abbrev pub KeepsAnEmptyFile : {D E : Type 0} → Ghosts D → Ghosts E → Type 0
KeepsAnEmptyFile {D} {E} g e = (disks : TwoDisks D E) (output : Stream) → AreTrue g e disks → g.reads disks.old ≡ []
    → (EndsStateKept g e disks output Done
    → WroteAll output (codes "balance,cash,0.00" ++ (10 ∷ []) ++ codes "balance,premiums,0.00" ++ (10 ∷ [])
    ++ codes "balance,incurred,0.00" ++ (10 ∷ []) ++ codes "balance,payable,0.00" ++ (10 ∷ []) ++ codes "count,0" ++ 10 ∷ []))
    × (EndsCheckpoint g e disks output Done → WroteAll output (codes "checkpoint,0" ++ 10 ∷ []))

-- an empty second file is no checkpoint, so it is true of any journal
abbrev pub TellsNoLie : Type 0
TellsNoLie = (bytes : List ℕ) → TellsTruth [] bytes

-- over any disks: over five bytes that are no journal `state` is refused with that line, and the second file stays
abbrev pub RefusesHelloByTwo : {D E : Type 0} → Ghosts D → Ghosts E → Type 0
RefusesHelloByTwo {D} {E} g e = (disks : TwoDisks D E) (output : Stream) → AreTrue g e disks
    → g.reads disks.old ≡ codes "hello" → EndsStateKept g e disks output BadJournal
    → WroteLine output (codes "badjournal,notajournal") × (e.reads disks.kept ≡ e.reads disks.second)

-- a checkpoint of no command
abbrev pub IsEmptyCheckpoint : List ℕ → Type 0
IsEmptyCheckpoint image = (s : Snapshot) × CheckpointBytes image s × (s.position ≡ 0)

-- over an empty file, each image has such a checkpoint once `checkpoint` has succeeded; if a disk failed, an image
-- has none, or is one from before, or has such a checkpoint
abbrev pub SavesNothing : {D E : Type 0} → Ghosts D → Ghosts E → Type 0
SavesNothing {D} {E} g e = (disks : TwoDisks D E) (output : Stream) (image : List ℕ) → AreTrue g e disks
    → g.reads disks.old ≡ [] → e.may_leave disks.kept image
    → (EndsCheckpoint g e disks output Done → IsEmptyCheckpoint image)
    × (EndsCheckpoint g e disks output DiskFault
    → IsNoCheckpoint image ⊎ e.may_leave disks.second image ⊎ IsEmptyCheckpoint image)

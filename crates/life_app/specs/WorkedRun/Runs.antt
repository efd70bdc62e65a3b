-- What the laws of a crash and of consecutive runs say of the worked run
use Rattle.std.specs.Prelude.{ℕ, List, [], ◌∷◌, ◌≡◌}
use Rattle.life_app.specs.WorkedRun.Names.{Command, Accepted, Entry, IsLegal, Opening, opened_on, IsFrontThere, IsLeftAlone, Opens, hand_issue, hand_premium, premium_turn, AreAllHeld, AreHeld, HasRun, AreLeft, AreRuns, HasAnsweredSome, HasReturned, OneRun, WasCut}
use Rattle.policy_types.specs.declared.entry.Call.TheVariants.{Post}
use Rattle.life_app.specs.WorkedRun.Calls.{CalledDisk, called, cut_disk, cut_file, called_disk, empty_disk, last_disk, paid_disk, reopening}

abbrev pub issue_turn : Entry
issue_turn = record { caller = 1; call = Post hand_issue; reply = Accepted 1 }

-- the issue and the premium are accepted; then the premium that the crash took away is accepted
abbrev pub first_turns : List Entry
first_turns = issue_turn ∷ premium_turn (Accepted 2) ∷ []

abbrev pub second_turns : List Entry
second_turns = premium_turn (Accepted 2) ∷ []

abbrev pub first_opening : Opening
first_opening = opened_on [] 0

abbrev pub second_opening : Opening
second_opening = opened_on (hand_issue ∷ []) 0

-- the first run had answered the issue when it was cut; the second run returned
abbrev pub cut_run : OneRun CalledDisk
cut_run = record { new = paid_disk; next = cut_disk; opening = first_opening; history = first_turns; answered = hand_issue ∷ [] }

abbrev pub whole_run : OneRun CalledDisk
whole_run = record { new = last_disk; next = last_disk; opening = second_opening; history = second_turns; answered = hand_premium ∷ [] }

abbrev pub both_commands : List Command
both_commands = hand_issue ∷ hand_premium ∷ []

-- on neither disk a call had been made, and what they read as is known
abbrev pub FoundByHand : Type 0
FoundByHand = (called.clock empty_disk ≡ 0) × (called.faults empty_disk ≡ 0) × (called.reads empty_disk ≡ [])
    × (called.clock cut_disk ≡ 0) × (called.faults cut_disk ≡ 0) × (called.reads cut_disk ≡ cut_file)

-- an office ran on each of them
abbrev pub RanByHand : Type 0
RanByHand = HasRun called empty_disk paid_disk first_opening first_turns × HasRun called cut_disk last_disk second_opening second_turns
    × IsLegal first_opening first_turns × IsLegal second_opening second_turns

-- the first run was cut, and the second returned, so they are consecutive runs
abbrev pub RowByHand : Type 0
RowByHand = WasCut called empty_disk cut_run × HasAnsweredSome called empty_disk cut_run × HasReturned whole_run
    × AreRuns called empty_disk (cut_run ∷ whole_run ∷ []) last_disk

-- a disk on which the office is opened and nothing is posted
abbrev pub looked_disk : CalledDisk
looked_disk = called_disk cut_file reopening

-- a crash may have left the cut file, and at last it leaves what is read
abbrev pub ImagesByHand : Type 0
ImagesByHand = called.left_since paid_disk 0 cut_file × called.left_since looked_disk 0 cut_file
    × called.may_leave last_disk (called.reads last_disk)

-- what a crash leaves of the first run: a prefix of the two commands; and the second run was opened on one
abbrev pub CrashesByHand : Type 0
CrashesByHand = ((image : List ℕ) → called.left_since paid_disk 0 image → IsFrontThere Opens [] first_turns image)
    × IsFrontThere Opens [] first_turns cut_file
    × AreHeld first_opening first_turns (hand_issue ∷ [])
    × ((image : List ℕ) → called.may_leave last_disk image → Opens image both_commands × AreAllHeld second_opening second_turns both_commands)

-- the disk that was looked at is left alone, and holds what it held
abbrev pub OpenedByHand : Type 0
OpenedByHand = HasRun called cut_disk looked_disk second_opening [] × IsLeftAlone called cut_disk looked_disk
    × ((image : List ℕ) → called.left_since looked_disk 0 image → IsFrontThere Opens [] first_turns image)

-- the runs leave the issue and the premium, which are what the two added
abbrev pub LeftByHand : Type 0
LeftByHand = ((image : List ℕ) → called.may_leave last_disk image
    → (held : List Command) × Opens image held × AreLeft [] (cut_run ∷ whole_run ∷ []) held)
    × ((image : List ℕ) → called.may_leave last_disk image → Opens image both_commands × AreLeft [] (cut_run ∷ whole_run ∷ []) both_commands)

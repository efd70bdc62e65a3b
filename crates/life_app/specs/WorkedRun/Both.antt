-- The worked run over both disks: the cut run, then one that saves the books and is cut once they are saved, and the premium
use Rattle.std.specs.Prelude.{◌≡◌, ◌⊎◌, ℕ, true, List, [], ◌∷◌, ◌++◌, Some, codes, length}
use Rattle.watcher_set.specs.Evidence.{a_lack}
use Rattle.life_app.specs.WorkedRun.Names.{CheckpointBytes, FileCall, Measured, Synced, file_reads, Opens, hand_issue, Command, status_of, Ending, Done, Usage, BadJournal, NoMemory, books_text, EndsCheckpoint, EndsStateKept, AreTrue, IsMadeSafe, TellsTruth, TwoDisks, EndsState, JournalIs, IsDueEnding, EndsUnasked, Obeys, Filing, Second, With, filing_between, AreWords, Checkpoint, Mode, OpensToNone, book}
use Rattle.policy_machine.specs.Accounts.{ledger_of}
use Rattle.checkpoint_store.specs.Spelling.{snapshot_bytes}
use Rattle.checkpoint_store.specs.Worked.{issued_snapshot}
use Rattle.life_app.specs.KeptRuns.{AreRunsOfTwo, IsLeftByCall, IsRunOfTwo, IsSnapshotOfFirst, KeepsSecond, LeavesSaved, LeavesSecond, OneRunOfTwo, SavedOfFirst, SavesBooks, WasCutAfter, WasCutBefore, WasLeftOf}
use Rattle.life_app.specs.WorkedRun.Due.{letters, letters_disk, letters_filing, no_input}
use Rattle.life_app.specs.WorkedRun.Calls.{CalledDisk, called, cut_disk, called_disk, empty_disk, last_disk, puts, untorn}
use Rattle.life_app.specs.WorkedRun.Promise.{output_of, shelf_that_told, two_auditors}
use Rattle.life_app.specs.WorkedRun.Runs.{both_commands, cut_run, looked_disk, second_opening, whole_run}

-- an empty second file is made safe; its gate is closed, all else is written, and the gate is opened
abbrev pub saving : List FileCall
saving = puts 0 (1 ∷ []) (puts 1 (snapshot_bytes issued_snapshot) (puts 0 (0 ∷ []) (Measured (Some 0) ∷ Synced true ∷ [])))

abbrev pub saved_disk : CalledDisk
saved_disk = called_disk [] saving

-- what it reads as then
abbrev pub saved_file : List ℕ
saved_file = file_reads [] untorn saving

-- the disks of a call that saves the books of the cut file
abbrev pub saving_disks : TwoDisks CalledDisk CalledDisk
saving_disks = record { old = cut_disk; new = looked_disk; second = empty_disk; kept = saved_disk }

-- the disk of a call that reads it, and that of a call that finds letters
abbrev pub second_disk : CalledDisk
second_disk = called_disk saved_file []

abbrev pub read_disk : CalledDisk
read_disk = called_disk saved_file (Measured (Some (length saved_file)) ∷ Synced true ∷ [])

abbrev pub stating_disks : TwoDisks CalledDisk CalledDisk
stating_disks = record { old = cut_disk; new = looked_disk; second = second_disk; kept = read_disk }

abbrev pub letters_disks : TwoDisks CalledDisk CalledDisk
letters_disks = record { old = called_disk letters []; new = letters_disk; second = empty_disk; kept = empty_disk }

-- a crash left the second file as it was
abbrev pub cut_of_two : OneRunOfTwo CalledDisk CalledDisk
cut_of_two = record { one = cut_run; kept = empty_disk; next_second = empty_disk }

-- the books were saved, and then a crash came
abbrev pub saved_of_two : OneRunOfTwo CalledDisk CalledDisk
saved_of_two = record {
  one = record { new = looked_disk; next = cut_disk; opening = second_opening; history = []; answered = [] };
  kept = saved_disk;
  next_second = second_disk;
}

-- the run of the premium leaves the second disk
abbrev pub whole_of_two : OneRunOfTwo CalledDisk CalledDisk
whole_of_two = record { one = whole_run; kept = second_disk; next_second = second_disk }

abbrev pub runs_of_two : List (OneRunOfTwo CalledDisk CalledDisk)
runs_of_two = cut_of_two ∷ saved_of_two ∷ whole_of_two ∷ []

-- both disks are true if the second has no checkpoint, if it has the journal's checkpoint, and beside a file that is
-- no journal
abbrev pub TrustedByHand : Type 0
TrustedByHand = AreTrue called called saving_disks × AreTrue called called stating_disks × AreTrue called called letters_disks

-- their files: the journal's that was looked at, beside the one that was saved to, or read; and an empty one
abbrev pub looked_filing : Filing
looked_filing = filing_between called cut_disk looked_disk

abbrev pub saved_filing : Second
saved_filing = With (filing_between called empty_disk saved_disk)

abbrev pub read_filing : Second
read_filing = With (filing_between called second_disk read_disk)

abbrev pub empty_filing : Second
empty_filing = With (filing_between called empty_disk empty_disk)

-- and neither failed, so what is due is the work, or that there is no journal
abbrev pub DueOfBothByHand : Type 0
DueOfBothByHand = JournalIs looked_filing saved_filing (λ file. Opens file (hand_issue ∷ []))
    × JournalIs looked_filing read_filing (λ file. Opens file (hand_issue ∷ []))
    × JournalIs letters_filing empty_filing OpensToNone
    × IsDueEnding (codes "checkpoint" ∷ []) no_input (output_of (codes "checkpoint,1" ++ 10 ∷ [])) (shelf_that_told []) looked_filing saved_filing Done
    × IsDueEnding (codes "state" ∷ []) no_input (output_of []) (shelf_that_told []) letters_filing empty_filing BadJournal

-- `checkpoint` saved the books, and the arguments are obeyed
abbrev pub SavedByHand : Type 0
SavedByHand = EndsCheckpoint called called saving_disks (output_of (codes "checkpoint,1" ++ 10 ∷ [])) Done
    × Obeys called called cut_disk looked_disk (Some empty_disk) (Some saved_disk) (codes "checkpoint" ∷ []) two_auditors no_input (output_of (codes "checkpoint,1" ++ 10 ∷ [])) (shelf_that_told []) (Unit {0}) (Unit {0}) 0

-- each run is one over both disks, and they follow one another
abbrev pub RowOfTwoByHand : Type 0
RowOfTwoByHand = IsRunOfTwo called called empty_disk empty_disk cut_of_two
    × IsRunOfTwo called called cut_disk empty_disk saved_of_two
    × IsRunOfTwo called called cut_disk second_disk whole_of_two
    × AreRunsOfTwo called called empty_disk empty_disk runs_of_two last_disk second_disk
    × WasCutBefore called empty_disk empty_disk
    × SavedOfFirst [] []

-- and so the call that saved them, which ended with 0, ended as was due
abbrev pub DueOfTheSaving : Type 0
DueOfTheSaving = (ending : Ending)
    → IsDueEnding (codes "checkpoint" ∷ []) no_input (output_of (codes "checkpoint,1" ++ 10 ∷ [])) (shelf_that_told []) looked_filing saved_filing ending
    → (status_of Done ≡ status_of ending) ⊎ (status_of Done ≡ 9)

-- what these runs are made of
abbrev pub PartsOfTwoByHand : Type 0
PartsOfTwoByHand = KeepsSecond called empty_disk cut_of_two × LeavesSecond called empty_disk empty_disk × WasLeftOf called empty_disk empty_disk empty_disk
    × SavesBooks called called cut_disk empty_disk saved_of_two × LeavesSaved called called saving_disks
    × ((safe : IsMadeSafe called cut_disk looked_disk) × WasCutAfter called called cut_disk empty_disk saved_of_two safe)
    × WasLeftOf called empty_disk saved_disk second_disk

-- `state` writes the policy of the cut file, by the checkpoint and by the journal alone
abbrev pub issue_books : List ℕ
issue_books = codes "policy,7001,inforce,endowment,0,3,1000.00,400.00,2020-01-01,0,0.00" ++ 10
    ∷ codes "balance,cash,0.00" ++ 10 ∷ codes "balance,premiums,0.00" ++ 10
    ∷ codes "balance,incurred,0.00" ++ 10 ∷ codes "balance,payable,0.00" ++ 10 ∷ codes "count,1" ++ 10 ∷ []

abbrev pub StatedByHand : Type 0
StatedByHand = EndsState called cut_disk looked_disk (λ commands. books_text (book commands) (ledger_of commands) (length commands)) (output_of issue_books) Done
    × EndsStateKept called called stating_disks (output_of issue_books) Done
    × Obeys called called cut_disk looked_disk (Some second_disk) (Some read_disk) (codes "state" ∷ []) two_auditors no_input (output_of issue_books)
    (shelf_that_told []) (Unit {0}) (Unit {0}) 0

-- no arguments ask for nothing, and there may be no memory to read them
abbrev pub OtherwiseByHand : Type 0
OtherwiseByHand = AreWords (codes "checkpoint" ∷ []) Checkpoint × ((mode : Mode) → ¬ AreWords [] mode)
    × EndsUnasked cut_disk cut_disk (Some second_disk) (Some second_disk) [] (output_of (codes "usage" ++ 10 ∷ [])) (Unit {0}) (Unit {0}) Usage
    × ((words : List (List ℕ)) → EndsUnasked cut_disk cut_disk (Some second_disk) (Some second_disk) words (output_of (codes "nomemory" ++ 10 ∷ [])) (Unit {0}) (Unit {0}) (NoMemory a_lack))

-- so the second file's checkpoint is of the first of the commands, and is true of the journal
abbrev pub LeftOfTwoByHand : Type 0
LeftOfTwoByHand = called.may_leave second_disk saved_file
    × ((image file : List ℕ) → called.may_leave last_disk image → called.may_leave second_disk file
    → (held : List Command) × Opens image held × SavedOfFirst file held × TellsTruth file image)
    × CheckpointBytes saved_file issued_snapshot
    × IsSnapshotOfFirst both_commands issued_snapshot
    × IsLeftByCall called called saving_disks

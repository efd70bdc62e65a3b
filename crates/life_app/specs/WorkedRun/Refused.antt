-- What the promise refuses: it can't be true of what wrong programs would leave of the worked run's script
use Rattle.std.specs.Prelude.{◌≡◌, ◌⊎◌, ℕ, ◌<◌, List, [], ◌∷◌, ◌++◌, codes}
use Rattle.life_app.specs.WorkedRun.Names.{Accepted, AnsweredLine, AreSafeWhenShown, Dated, Entry, FileCall, Opens, PostLine, hand_issue, hand_premium, Stream, IsPromised, IsUnrun, table_reserves, run_wording}
use Rattle.outside_io.specs.Streams.{TakenPiece}
use Rattle.policy_types.specs.declared.entry.Call.TheVariants.{Post}
use Rattle.program_endings.specs.Writing.{WroteAll}
use Rattle.life_app.specs.WorkedRun.Calls.{CalledDisk, called, cut_disk, cut_file, called_disk, last_disk, posts, puts, reopening}
use Rattle.life_app.specs.WorkedRun.Due.{stocked_shelf, value_lanes, value_script}
use Rattle.life_app.specs.WorkedRun.Promise.{given_script, output_of, premium_lanes, premium_text, shelf_that_told, two_auditors}
use Rattle.life_app.specs.WorkedRun.Runs.{both_commands, looked_disk}

-- What the promise says of a run of the premium's script over the cut file that left this disk and this output, with this
-- status, and asked nothing of the shelf.
abbrev pub Admits : CalledDisk → Stream → ℕ → Type 0
Admits new output status =
    IsPromised called Opens run_wording table_reserves cut_disk new premium_lanes [] two_auditors output status
    ⊎ IsUnrun called Opens cut_disk new (codes "basis.csv") given_script output (shelf_that_told []) status

-- so it can't end in this way, whatever it left and wrote
abbrev pub NeverEnds : ℕ → Type 0
NeverEnds status = (new : CalledDisk) (output : Stream) → Admits new output status → ⊥

-- No made-up cause. The arguments were right, the script can be read, the shelf wasn't asked and so can't have
-- failed, and neither has the input; a journal that opens isn't a bad one; and if the counts of faults didn't rise,
-- neither the output nor the disk failed. This holds whatever is printed: the transcript, nothing, or the line of
-- that cause.
abbrev pub CausesByHand : Type 0
CausesByHand = NeverEnds 2 × NeverEnds 3 × NeverEnds 4 × NeverEnds 6 × NeverEnds 10
    × ((new : CalledDisk) (output : Stream) → called.honest new → Admits new output 5 → ⊥)
    × ((new : CalledDisk) (bytes : List ℕ) → Admits new (output_of bytes) 7 → ⊥)
    × ((output : Stream) → Admits looked_disk output 8 → ⊥)
    × ((output : Stream) → Admits last_disk output 8 → ⊥)

-- the premium's turn under some caller's number, and the line that it answers
abbrev pub premium_turn_by : ℕ → Entry
premium_turn_by caller = record { caller = caller; call = Post hand_premium; reply = Accepted 2 }

abbrev pub answered_by : ℕ → AnsweredLine
answered_by caller = record { clerk = 1; line = PostLine hand_premium; first = (0, premium_turn_by caller); rest = [] }

-- With status 0, the transcript is what was written, and nothing else; whatever a crash leaves opens to both
-- commands; and the line was printed once that was so.
abbrev pub TruthByHand : Type 0
TruthByHand = (new : CalledDisk) (output : Stream)
    → IsPromised called Opens run_wording table_reserves cut_disk new premium_lanes [] two_auditors output 0 → called.honest new
    → WroteAll output premium_text × ((image : List ℕ) → called.may_leave new image → Opens image both_commands)
    × ((caller : ℕ) × ((run : List TakenPiece) × (output.pieces_after ≡ run ++ output.pieces_before)
    × AreSafeWhenShown called Opens new (hand_issue ∷ []) (premium_turn_by caller ∷ []) (answered_by caller ∷ [])
    ((codes "1,premium,7001,accepted,2" ++ 10 ∷ []) ∷ []) run))

-- `nomemory` in place of the answer, and one more line after the transcript
abbrev pub unanswered_text : List ℕ
unanswered_text = codes "1,premium,7001,nomemory" ++ 10 ∷ codes "watcher,1,1,1" ++ 10 ∷ codes "watcher,2,1,40000" ++ 10 ∷ []

abbrev pub longer_text : List ℕ
longer_text = premium_text ++ codes "1,premium,7001,accepted,3" ++ 10 ∷ []

-- the transcript, handed on by this moment of the disk
abbrev pub output_at : ℕ → Stream
output_at moment = record (output_of premium_text) { pieces_after = (record { bytes = premium_text; since = moment }) ∷ [] }

-- a disk on which the file was unmade, and made again, before the premium was posted
abbrev pub unmaking : List FileCall
unmaking = puts 0 (0 ∷ []) reopening

abbrev pub remade_disk : CalledDisk
remade_disk = called_disk cut_file (posts 1 hand_premium (puts 0 (1 ∷ []) unmaking))

-- So with status 0 it can't have printed either of these; nor the transcript if nothing was posted. Nor can it have
-- handed the transcript on by a moment before the last sync, even if the gate was written by then but not made safe;
-- nor have lost the issue in between.
abbrev pub ForgedByHand : Type 0
ForgedByHand = (Admits last_disk (output_of unanswered_text) 0 → ⊥)
    × (Admits last_disk (output_of longer_text) 0 → ⊥)
    × (Admits looked_disk (output_of premium_text) 0 → ⊥)
    × ((moment : ℕ) → moment < called.clock last_disk → Admits last_disk (output_at moment) 0 → ⊥)
    × (Admits remade_disk (output_at (called.clock remade_disk)) 0 → ⊥)

-- the same for a run of the valuation's script, by whatever basis, which only looked at the file
abbrev pub AdmitsValues : List Dated → Stream → ℕ → Type 0
AdmitsValues basis output status =
    IsPromised called Opens run_wording table_reserves cut_disk looked_disk value_lanes basis two_auditors output status
    ⊎ IsUnrun called Opens cut_disk looked_disk (codes "b.csv") value_script output stocked_shelf status

abbrev pub unvalued_transcript : List ℕ
unvalued_transcript = codes "1,value,2020-01-01,nomemory" ++ 10 ∷ codes "watcher,1,0,0" ++ 10 ∷ codes "watcher,2,0,0" ++ 10 ∷ []

-- with status 0 it can't have printed that there was no memory for the rows
abbrev pub ValuedByHand : Type 0
ValuedByHand = (basis : List Dated) → AdmitsValues basis (output_of unvalued_transcript) 0 → ⊥

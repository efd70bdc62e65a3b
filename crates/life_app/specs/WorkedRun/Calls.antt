-- A worked run, given by the calls of its file: an empty file becomes a journal, a policy is issued, and a premium is
-- posted, of which a crash leaves the body after a closed gate; the file is opened again, and the premium is posted
-- again
use Rattle.std.specs.Prelude.{◌≡◌, ℕ, ◌+◌, ◌*◌, true, false, List, [], ◌∷◌, ◌++◌, Some, length, take, drop}
use Rattle.life_app.specs.Names.{FileCall, Measured, ReadFrom, WrittenTo, Synced, file_reads, writes_within, AreAllowed, FileImage, FileLeft, Ghosts, Command, hand_issue, hand_premium, issue_record, journal_of_two, premium_body}
use Rattle.posting_journal.specs.Layout.{body_place, gate_place, header}
use Rattle.record_codec.specs.Spelling.{spelling_of}

-- no write failed
abbrev pub untorn : ℕ → List ℕ
untorn calls = []

-- nothing was written before the first call that wasn't made safe
abbrev pub Unsynced : List ℕ → Type 0
Unsynced image = ⊥

-- A disk given by its calls, newest first, and what its file read as before the first of them.
pub record CalledDisk : Type 0 where
  pub first : List ℕ
  pub calls : List FileCall

-- how many syncs failed
abbrev pub failures : List FileCall → ℕ
failures [] = 0
failures (Synced false ∷ earlier) = failures earlier + 1
failures (call ∷ earlier) = failures earlier

-- It means what a file's record of its calls means; no call of it failed but syncs.
abbrev pub called : Ghosts CalledDisk
called = record {
  faults = λ disk. failures disk.calls;
  honest = λ disk. AreAllowed disk.first untorn disk.calls × (writes_within disk.first untorn disk.calls ≡ true);
  reads = λ disk. file_reads disk.first untorn disk.calls;
  may_leave = λ disk image. FileImage disk.first untorn Unsynced disk.calls image;
  clock = λ disk. length disk.calls;
  left_since = λ disk moment image. FileLeft disk.first untorn Unsynced disk.calls moment image;
}

abbrev pub called_disk : List ℕ → List FileCall → CalledDisk
called_disk first calls = record { first = first; calls = calls }

-- these bytes are written over what is there, and made safe
abbrev pub puts : ℕ → List ℕ → List FileCall → List FileCall
puts at bytes earlier = Synced true ∷ WrittenTo at bytes true ∷ earlier

-- record n is staged after a closed gate, and then the gate is opened
abbrev pub stages : ℕ → Command → List FileCall → List FileCall
stages n command earlier = puts (body_place n) (spelling_of command ++ 0 ∷ []) earlier

abbrev pub posts : ℕ → Command → List FileCall → List FileCall
posts n command earlier = puts (gate_place n) (1 ∷ []) (stages n command earlier)

-- the same, but the sync after the open gate fails
abbrev pub fails : ℕ → Command → List FileCall → List FileCall
fails n command earlier = Synced false ∷ WrittenTo (gate_place n) (1 ∷ []) true ∷ stages n command earlier

-- an empty file is made safe and looked at, and then a journal is created in three steps
abbrev pub creation : List FileCall
creation = puts 0 (1 ∷ []) (puts 1 (header ++ 0 ∷ []) (puts 0 (0 ∷ [])
    (ReadFrom 0 0 (Some []) ∷ Measured (Some 0) ∷ Synced true ∷ [])))

-- the issue, and the first time that the premium is posted
abbrev pub issuing : List FileCall
issuing = posts 0 hand_issue creation

abbrev pub first_calls : List FileCall
first_calls = posts 1 hand_premium issuing

-- what the crash leaves, when the premium's body was made safe
abbrev pub cut_file : List ℕ
cut_file = file_reads [] untorn (stages 1 hand_premium issuing)

-- a file with so many records is made safe, measured and read
abbrev pub looks : ℕ → List ℕ → List FileCall
looks n file = ReadFrom 17 (65 * n + 1) (Some (take (65 * n + 1) (drop 17 file))) ∷ ReadFrom 0 18 (Some (take 18 file))
    ∷ Measured (Some (length file)) ∷ Synced true ∷ []

-- the cut file has room for two
abbrev pub reopening : List FileCall
reopening = looks 2 cut_file

-- the premium again
abbrev pub second_calls : List FileCall
second_calls = posts 1 hand_premium reopening

abbrev pub empty_disk : CalledDisk
empty_disk = called_disk [] []

abbrev pub paid_disk : CalledDisk
paid_disk = called_disk [] first_calls

abbrev pub cut_disk : CalledDisk
cut_disk = called_disk cut_file []

abbrev pub last_disk : CalledDisk
last_disk = called_disk cut_file second_calls

-- each answer is one that the disk model allows, and each write begins within the file
abbrev pub HonestCalls : Type 0
HonestCalls = called.honest empty_disk × called.honest paid_disk × called.honest cut_disk × called.honest last_disk

-- what the file reads as, byte by byte: after the first run, as it was cut, and at last
abbrev pub ReadsByHand : Type 0
ReadsByHand = (called.reads paid_disk ≡ journal_of_two)
    × (called.reads cut_disk ≡ issue_record ++ 0 ∷ premium_body ++ 0 ∷ [])
    × (called.reads last_disk ≡ journal_of_two)

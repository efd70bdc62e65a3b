-- Worked files of an office: a journal of two commands, what a crash leaves of a posting, and what the turns of a history say of it.
-- The bytes are those of record_codec's worked bodies and of posting_journal's worked files
use Rattle.std.specs.Prelude.{◌≡◌, ℕ, List, [], ◌∷◌, ◌++◌, take, replicate, pos}
use Rattle.office_state.specs.Names.{Command, Issue, Premium, Post, Reply, Accepted, Refused, Faulted, Blank, Entry, Opening, opened_on, Endowment}
use Rattle.policy_types.specs.declared.refusal.Refusal.TheVariants.{NothingDue}
use Rattle.record_codec.specs.Worked.{first_issue_bytes}
use Rattle.posting_journal.specs.Worked.{header_by_hand}
use Rattle.office_state.specs.declared.faults.StartCause.TheVariants.{NotAJournal, BadRecord}
use Rattle.office_state.specs.Images.{AreQuiet, IsFrontThere, IsThere, OpensAlike, WasFaulted, faults_after}
use Rattle.office_state.specs.Journals.{IsShown, JournalBytes, Opens}

abbrev pub hand_issue : Command
hand_issue = Issue 7001 (pos 18262) Endowment 0 3 100000 40000

abbrev pub hand_premium : Command
hand_premium = Premium 7001 (pos 18262) 40000

abbrev pub issue_body : List ℕ
issue_body = first_issue_bytes ++ replicate 36 0

-- 400.00 on day 18262
abbrev pub premium_body : List ℕ
premium_body =
    (0x02 ∷ 0x00 ∷ 0x00 ∷ 0x00 ∷
    0x00 ∷ 0x00 ∷ 0x1b ∷ 0x59 ∷
    0x00 ∷ 0x00 ∷ 0x47 ∷ 0x56 ∷
    0x00 ∷ 0x00 ∷ 0x00 ∷ 0x00 ∷ 0x00 ∷ 0x00 ∷ 0x9c ∷ 0x40 ∷
    0x00 ∷ 0x00 ∷ 0x00 ∷ 0x00 ∷ 0x00 ∷ 0x00 ∷ 0x00 ∷ 0x00 ∷ []) ++ replicate 36 0

-- the journal of the issue, up to the gate after it
abbrev pub issue_record : List ℕ
issue_record = 1 ∷ header_by_hand ++ 1 ∷ issue_body

abbrev pub journal_of_one : List ℕ
journal_of_one = issue_record ++ 0 ∷ []

abbrev pub journal_of_two : List ℕ
journal_of_two = issue_record ++ 1 ∷ premium_body ++ 0 ∷ []

abbrev pub JournalOfTwo : Type 0
JournalOfTwo = JournalBytes journal_of_two (hand_issue ∷ hand_premium ∷ [])
    × (JournalBytes journal_of_two (hand_issue ∷ []) → ⊥)

-- while the premium is posted: a part of its body stands after the closed gate, then all of it, then the gate is open
abbrev pub CrashesOfAPosting : Type 0
CrashesOfAPosting = JournalBytes journal_of_one (hand_issue ∷ [])
    × JournalBytes (issue_record ++ 0 ∷ take 30 premium_body) (hand_issue ∷ [])
    × JournalBytes (issue_record ++ 0 ∷ premium_body ++ 0 ∷ []) (hand_issue ∷ [])
    × ((more : List Command) × Opens journal_of_two (hand_issue ∷ more))

abbrev pub premium_turn : Reply → Entry
premium_turn reply = record { caller = 1; call = Post hand_premium; reply = reply }

-- an office that was opened on the issue, when the disk had three faults
abbrev pub hand_opening : Opening
hand_opening = opened_on (hand_issue ∷ []) 3

-- after the premium met a fault, the image may be with it or without it; without a turn it can't have the premium;
-- once the premium is accepted, it has it
abbrev pub HeldNow : Type 0
HeldNow = IsThere JournalBytes (hand_issue ∷ []) (premium_turn (Faulted 4) ∷ []) [] journal_of_one
    × IsThere JournalBytes (hand_issue ∷ []) (premium_turn (Faulted 4) ∷ []) [] journal_of_two
    × (IsThere JournalBytes (hand_issue ∷ []) [] [] journal_of_two → ⊥)
    × IsThere JournalBytes (hand_issue ∷ []) (premium_turn (Accepted 2) ∷ []) (hand_premium ∷ []) journal_of_two

-- at some moment of the turns: before the premium or with it
abbrev pub HeldOnce : Type 0
HeldOnce = IsFrontThere Opens (hand_issue ∷ []) (premium_turn (Accepted 2) ∷ []) journal_of_one
    × IsFrontThere Opens (hand_issue ∷ []) (premium_turn (Accepted 2) ∷ []) journal_of_two
    × IsFrontThere Opens (hand_issue ∷ []) (premium_turn (Faulted 4) ∷ []) journal_of_two

-- a posting was answered `fault` when exactly these were accepted, and not when more were
abbrev pub FaultedThen : Type 0
FaultedThen = WasFaulted (premium_turn (Faulted 4) ∷ premium_turn (Refused NothingDue) ∷ []) [] hand_premium
    × (WasFaulted (premium_turn (Faulted 4) ∷ premium_turn (Accepted 2) ∷ []) (hand_premium ∷ []) hand_premium → ⊥)

-- the count is that of the last fault, or of the opening
abbrev pub FaultsCounted : Type 0
FaultsCounted = (faults_after hand_opening (premium_turn (Faulted 4) ∷ premium_turn (Faulted 6) ∷ premium_turn Blank ∷ []) ≡ 6)
    × (faults_after hand_opening (premium_turn (Accepted 2) ∷ []) ≡ 3)
    × AreQuiet (premium_turn Blank ∷ premium_turn (Refused NothingDue) ∷ [])
    × (AreQuiet (premium_turn Blank ∷ premium_turn (Accepted 2) ∷ []) → ⊥)
    × (AreQuiet (premium_turn (Faulted 4) ∷ []) → ⊥)

-- an empty file and ten zeros open alike
abbrev pub EmptyAlike : Type 0
EmptyAlike = OpensAlike [] (replicate 10 0)

-- eighteen letters A; a record cut short; the same issue twice, the second of which can't follow the first
abbrev pub ShownCauses : Type 0
ShownCauses = IsShown (replicate 18 65) NotAJournal × IsShown issue_record (BadRecord 0)
    × IsShown (issue_record ++ 1 ∷ issue_body ++ 0 ∷ []) (BadRecord 1)

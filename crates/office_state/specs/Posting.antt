-- What posting a command does
use Rattle.std.specs.Prelude.{◌≡◌, ◌⊎◌, ℕ, List, [], ◌∷◌, ◌++◌}
use Rattle.office_state.specs.Names.{Ghosts, Command, Post, Reply, Accepted, Refused, Faulted, Blank, Entry, Opening, accepted_of, commands_after, Leaves, SameOutlet, WatcherGhosts}
use Rattle.office_state.specs.declared.answer.Answer.{Answer}
use Rattle.office_state.specs.declared.answer.Answer.TheVariants.{Accepted as AcceptedAt, Refused as RefusedFor, DiskFault, NoMemory}
use Rattle.office_state.specs.Journals.{JournalBytes}
use Rattle.office_state.specs.declared.state.OfficeState.{OfficeState}
use Rattle.office_state.specs.Images.{IsThere}
use Rattle.office_state.specs.States.{disk_of, opened_of, outlet_of}

-- the reply of an answer's turn; if memory was refused, the reply is blank
abbrev pub reply_of : Answer → Reply
reply_of (AcceptedAt position) = Accepted position
reply_of (RefusedFor refusal) = Refused refusal
reply_of (DiskFault count) = Faulted count
reply_of (NoMemory lack) = Blank

-- the turn in which a caller's posting is answered
abbrev pub turn_of : ℕ → Command → Answer → Entry
turn_of caller command answer = record { caller = caller; call = Post command; reply = reply_of answer }

-- the answers that come before anything is written
abbrev pub IsBeforeWriting : Answer → Type 0
IsBeforeWriting (RefusedFor refusal) = Unit {0}
IsBeforeWriting (NoMemory lack) = Unit {0}
IsBeforeWriting _ = ⊥

abbrev pub IsAcceptance : Answer → Type 0
IsAcceptance (AcceptedAt position) = Unit {0}
IsAcceptance _ = ⊥

-- Crashes in a posting. At each moment since it began, an image holds the commands from before, or these and the
-- posted one, or these and one whose posting was answered `fault` when exactly these were accepted. Once the posting
-- is accepted, each image holds its command.
pub record CrashesIn {D : Type 0} (g : Ghosts D) (old new : D) (opening : Opening) (turns : List Entry)
    (command : Command) (answer : Answer) : Type 0 where
  pub during : Leaves g old new (λ image. IsThere JournalBytes opening.commands turns (accepted_of turns) image
      ⊎ JournalBytes image (commands_after opening turns ++ command ∷ []))
  pub accepted : IsAcceptance answer → (image : List ℕ) → g.may_leave new image
      → JournalBytes image (commands_after opening turns ++ command ∷ [])

-- What a posting leaves: the opening and the outlet stay; a disk that is honest now was honest before; and an answer
-- that comes before anything is written leaves the disk as it was.
pub record KeepsOffice {D W : Type 0} {g : Ghosts D} {w : WatcherGhosts W} (old new : OfficeState D W g w) (answer : Answer)
    : Type 0 where
  pub opened : opened_of new ≡ opened_of old
  pub outlet : SameOutlet (outlet_of old) (outlet_of new)
  pub honesty : g.honest (disk_of new) → g.honest (disk_of old)
  pub unwritten : IsBeforeWriting answer → disk_of new ≡ disk_of old

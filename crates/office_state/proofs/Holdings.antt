-- Short names for what images hold, and what histories say of them
use Rattle.std.specs.Prelude.{◌≡◌, ◌≢◌, ℕ, List, ◌++◌, None}
use Rattle.outside_io.specs.declared.disks.Disk.{Ghosts}
use Rattle.policy_types.specs.declared.command.Command.{Command}
use Rattle.policy_types.specs.declared.entry.Entry.{Entry}
use Rattle.policy_types.specs.declared.entry.Reply.{Reply}
use Rattle.policy_types.specs.declared.entry.Reply.TheVariants.{Accepted}
use Rattle.policy_machine.specs.History.{Opening, accepted_of, fault_of}
use Rattle.office_state.specs.Images.{HasKept, IsFrontThere, IsThere, WasFaulted}
use Rattle.office_state.specs.Journals.{JournalBytes, Opens}

-- a posting of the command met a fault, and no posting was accepted after it
abbrev pub IsPending : List Entry → Command → Type 0
IsPending history command = WasFaulted history (accepted_of history) command

abbrev pub HoldsNow : Opening → List Entry → List ℕ → Type 0
HoldsNow opening history image = IsThere JournalBytes opening.commands history (accepted_of history) image

abbrev pub HoldsOnce : Opening → List Entry → List ℕ → Type 0
HoldsOnce opening history image = IsFrontThere Opens opening.commands history image

abbrev pub HoldsAtLeast : List Command → List ℕ → Type 0
HoldsAtLeast commands image = (more : List Command) × Opens image (commands ++ more)

abbrev pub KeepsAccepted : {D : Type 0} → Ghosts D → D → D → Opening → List Entry → Type 0
KeepsAccepted g begun new opening history =
    (front rest : List Entry) → history ≡ front ++ rest → HasKept g begun new opening front

abbrev pub IsQuietReply : Reply → Type 0
IsQuietReply reply = (fault_of reply ≡ None) × ((position : ℕ) → reply ≢ Accepted position)

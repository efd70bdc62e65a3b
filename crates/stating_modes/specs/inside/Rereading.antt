-- What it means to read a journal's records again, for one policy
use Rattle.std.specs.Prelude.{◌≡◌, ℕ, List, [], ◌⊎◌, Err, IsOk, codes}
use Rattle.stating_modes.specs.Names.{AllByRecursion, Rose, AppendsPart, Ghosts, Command, IsUnfinished, LooksOn, disk_of, StartCause, IsOfTheFile, Opens, OpensToNone, Ending, Done, BadJournal, WriteFault, DiskFault, NoMemory, Stream, WroteAll, WroteLine, IsValid, id_of, policy_of, next, Journal, TellsFault, SaysWhy}
use Rattle.policy_types.specs.declared.command.Command.TheVariants.{Upgrade}
use Rattle.journal_replay.specs.Replays.{BodiesHave, HasReplayCause, IsLookedAt, IsQuiet, Stops, bodies_of}
use Rattle.journal_replay.specs.declared.replaying.ReplayFault.{ReplayFault}
use Rattle.office_state.specs.declared.faults.StartCause.TheVariants.{DiskFault as FaultyDisk}
use Rattle.office_state.specs.inside.Replays.{as_replay_cause}
use Rattle.stating_modes.specs.declared.rereading.Account.{Account}
use Rattle.stating_modes.specs.Books.{policy_account}
use Rattle.stating_modes.specs.inside.Accounts.{policy_entries}

-- the account is that of its policy after the commands
pub record IsAccount (account : Account) (commands : List Command) : Type 0 where
  pub valid : AllByRecursion IsValid commands
  pub entries : account.entries.items ≡ policy_entries commands account.id
  pub policy : account.policy ≡ policy_of commands account.id

-- after these commands the rules accept this one, which is of its policy; or it is an upgrade
abbrev pub CanBeNext : List Command → Command → Type 0
CanBeNext commands command = (command ≡ Upgrade) ⊎ IsOk (next (policy_of commands (id_of command)) command)

-- the account was read from a journal
pub record IsReadFrom {D : Type 0} {g : Ghosts D} (journal : Journal D g) (disk : D) (account : Account) (id : ℕ)
    : Type 0 where
  pub named : account.id ≡ id
  pub looked : IsLookedAt g (disk_of journal) disk
  pub commands : List Command
  pub holds : IsAccount account commands
  pub quiet : IsQuiet journal disk
  pub bodies : BodiesHave journal disk (λ bodies. bodies ≡ bodies_of commands)

-- the account couldn't be read from a journal
pub record IsStoppedFrom {D : Type 0} {g : Ghosts D} (journal : Journal D g) (disk : D) (cause : StartCause) : Type 0 where
  pub looked : IsLookedAt g (disk_of journal) disk
  pub fault : ReplayFault
  pub same : cause ≡ as_replay_cause fault
  pub told : HasReplayCause {T = Unit {0}} journal disk (Err fault)
  pub stops : Stops (AllByRecursion IsValid) CanBeNext journal disk [] fault

-- The account was read from the commands of the disk's file, if the disk comes back honest, as it was before. A file
-- that is no unfinished creation was only looked at.
pub record HasRead {D : Type 0} (g : Ghosts D) (old new : D) (account : Account) (id : ℕ) : Type 0 where
  pub named : account.id ≡ id
  pub commands : List Command
  pub holds : IsAccount account commands
  pub opened : g.honest new → (others : List Command) → Opens (g.reads old) others → commands ≡ others
  pub honesty : g.honest new → g.honest old
  pub quiet : g.faults new ≡ g.faults old
  pub unwritten : g.honest new → ¬ IsUnfinished (g.reads old) → LooksOn g old new

-- The account wasn't read from the disk's file, since the disk failed, or the file opens to no commands, or memory
-- was refused.
pub record HasNotRead {D : Type 0} (g : Ghosts D) (old new : D) (cause : StartCause) : Type 0 where
  pub told : TellsFault (g.faults old) (g.faults new) cause
  pub shown : g.honest new → IsOfTheFile cause → OpensToNone (g.reads old)
  pub honesty : g.honest new → g.honest old
  pub unwritten : g.honest new → ¬ IsUnfinished (g.reads old) → LooksOn g old new

-- how an account's text was written, from the commands that were read again
pub record IsAccounted {D : Type 0} (g : Ghosts D) (old new : D) (id : ℕ) (Wrote : List ℕ → Type 0) : Type 0 where
  pub account : Account
  pub read : HasRead g old new account id
  pub wrote : Wrote (policy_account id read.commands)

-- how a second reading of the journal ends
abbrev pub EndsReading : {D : Type 0} → Ghosts D → D → D → ℕ → Stream → Ending → Type 0
EndsReading g old new id output Done = IsAccounted g old new id (WroteAll output)
EndsReading g old new id output WriteFault =
    Rose output.faults_before output.faults_after
    × IsAccounted g old new id (AppendsPart output.before output.after)
EndsReading g old new id output BadJournal =
    (cause : StartCause) × SaysWhy cause output × HasNotRead g old new cause
EndsReading g old new id output DiskFault =
    (count : ℕ) × WroteLine output (codes "diskfault") × HasNotRead g old new (FaultyDisk count)
EndsReading g old new id output (NoMemory lack) =
    WroteLine output (codes "nomemory")
    × (g.honest new → g.honest old) × (g.faults new ≡ g.faults old)
    × (g.honest new → ¬ IsUnfinished (g.reads old) → LooksOn g old new)
EndsReading g old new id output _ = ⊥

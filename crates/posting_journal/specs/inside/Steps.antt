-- What the steps of the calls do, for the contracts of the steps alone.
use Rattle.std.specs.Prelude.{◌≡◌, ℕ, ◌≤◌, List, length, Result, IfOk, IfErr, OnOk}
use Rattle.posting_journal.specs.Names.{Only, Torn, Writes, Ghosts}
use Rattle.posting_journal.specs.Creation.{IsEmpty, IsUnfinished, OpensToBodies}
use Rattle.posting_journal.specs.Faults.{TellsFailure}
use Rattle.posting_journal.specs.Files.{IsJournal}
use Rattle.policy_types.specs.Limits.{most_commands}
use Rattle.posting_journal.specs.Layout.{empty_journal}
use Rattle.posting_journal.specs.Runs.{IsSafe, IsSafeWith, Passes}
use Rattle.posting_journal.specs.declared.faults.Unopened.{Unopened}
use Rattle.posting_journal.specs.inside.Unopened.{HasUnopenedCause, ShowsWhy}

-- the images that a write of so many bytes from a place on may make of those before
abbrev pub TornOf : {D : Type 0} → Ghosts D → D → ℕ → ℕ → List ℕ → Type 0
TornOf g old at many image = (earlier : List ℕ) × g.may_leave old earlier × Torn at many earlier image

-- a write that was made safe, or failed
pub record PutsOn {D T E : Type 0} (g : Ghosts D) (old new : D) (at : ℕ) (bytes : List ℕ)
    (result : Result T E) : Type 0 where
  pub facts : Writes at bytes result (g.reads old) (g.reads new) (g.may_leave old) (g.may_leave new)
  pub durable : OnOk result (Only (g.reads new) (g.may_leave new))
  pub time : Passes g old new (TornOf g old at (length bytes))

-- A step of a creation: at Ok what has P is safe, and at each moment the file is an unfinished creation, or the journal.
pub record CreatesOn {D T E : Type 0} (g : Ghosts D) (old new : D) (P : List ℕ → Type 0) (result : Result T E) : Type 0 where
  pub cause : TellsFailure g old new result
  pub done : g.honest new → OnOk result (IsSafeWith g P new)
  pub moments : g.honest new → Passes g old new IsEmpty

-- The file is the journal of so many bodies, those to which it opened, and each image is what is read.
pub record OpenedTo {D : Type 0} (g : Ghosts D) (old new : D) (count : ℕ) : Type 0 where
  pub bodies : List (List ℕ)
  pub opened : OpensToBodies (g.reads old) bodies
  pub holds : IsJournal (g.reads new) bodies
  pub counted : count ≡ length bodies
  pub safe : IsSafe g new

-- What an opening answers: the journal's count, which is 0 after a creation, or what the file shows.
pub record AnswersOpening {D : Type 0} (g : Ghosts D) (old new : D) (result : Result ℕ Unopened) : Type 0 where
  pub cause : HasUnopenedCause g old new result
  pub few : IfOk result (λ n. n ≤ most_commands)
  pub opened : g.honest new → IfOk result (λ n. OpenedTo g old new n)
  pub made : g.honest new → IsUnfinished (g.reads old) → IfOk result (λ n. g.reads new ≡ empty_journal)
  pub refused : g.honest new → IfErr result (λ cause. ShowsWhy (g.reads old) cause)

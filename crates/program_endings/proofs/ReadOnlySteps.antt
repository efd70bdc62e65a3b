-- What the exit status says of a mode that only reads the disk's file
use Rattle.program_endings.proofs.Names.{◌≡◌, ℕ, ◌⊎◌, List, refl, inl, inr, Rose, AppendsPart, Command, Ending, Done, BadJournal, WriteFault, DiskFault, NoMemory, status_of, Stream, WroteAll}
use Rattle.outside_io.specs.declared.disks.Disk.{Ghosts}
use Rattle.office_state.specs.declared.faults.StartCause.{StartCause}
use Rattle.office_state.specs.declared.faults.StartCause.TheVariants.{DiskFault as FaultyDisk, NotAJournal, BadRecord, NoMemory as NoRoom}
use Rattle.office_state.specs.Journals.{IsOfTheFile, Opens, OpensToNone}
use Rattle.office_state.proofs.JournalLaws.{shown_opens_to_none}
use Rattle.office_state.proofs.OpeningSteps.{finished}
use Rattle.office_state.specs.Opening.{HasNotOpened}
use Rattle.program_endings.specs.Refusals.{EndsNoOffice, SaysWhy, SaysUnopened}
use Rattle.office_state.specs.Images.{IsLeftAlone}
use Rattle.program_endings.specs.Texts.{EndsReadOnly}

-- a file is refused as a journal for what its bytes are
of_the_file : (cause : StartCause) (output : Stream) → SaysWhy cause output → IsOfTheFile cause
of_the_file NotAJournal output said = tt
of_the_file (BadRecord n) output said = tt
of_the_file (FaultyDisk count) output said = said
of_the_file (NoRoom lack) output said = said

module _ {D : Type 0} (g : Ghosts D) (old new : D) where
  -- then the file opens to no commands
  pub opens_to_none : (output : Stream) → EndsNoOffice g old new output BadJournal → g.honest new → OpensToNone (g.reads old)
  opens_to_none output refused honest =
      shown_opens_to_none (g.reads old) refused.0 (of_the_file refused.0 output refused.1) (refused.2 honest)

  -- what a mode that only reads says of a file that opens to none, and of one that opens to some commands
  module _ (Tells : (List ℕ → Type 0) → Type 0) (output : Stream) where
    pub read_as_before : (ending : Ending) → EndsReadOnly g old new Tells output ending
        → ((Wrote : List ℕ → Type 0) → Tells Wrote → ⊥) → g.honest new → OpensToNone (g.reads old) → g.reads new ≡ g.reads old
    read_as_before Done ends never honest none = absurd (never (WroteAll output) ends)
    read_as_before WriteFault ends never honest none = absurd (never (AppendsPart output.before output.after) ends.1)
    read_as_before BadJournal ends never honest none = (ends.1.unwritten honest (finished (g.reads old) none)).reads
    read_as_before DiskFault ends never honest none = (ends.1.unwritten honest (finished (g.reads old) none)).reads
    read_as_before (NoMemory lack) ends never honest none = (ends.1.unwritten honest (finished (g.reads old) none)).reads
    read_as_before _ ends never honest none = absurd ends.0

    pub read_to_end : (ending : Ending) (commands : List Command)
        → EndsReadOnly g old new Tells output ending → g.honest new → Opens (g.reads old) commands
        → (Rose output.faults_before output.faults_after → ⊥) → (Rose (g.faults old) (g.faults new) → ⊥)
        → (status_of ending ≡ 0) ⊎ (status_of ending ≡ 9)
    read_to_end Done commands ends honest opens output_held disk_held = inl refl
    read_to_end (NoMemory lack) commands ends honest opens output_held disk_held = inr refl
    read_to_end WriteFault commands ends honest opens output_held disk_held = absurd (output_held ends.0)
    read_to_end DiskFault commands ends honest opens output_held disk_held = absurd (disk_held ends.0.1)
    read_to_end BadJournal commands ends honest opens output_held disk_held =
        absurd (opens_to_none output ends.0 honest commands opens)
    read_to_end _ commands ends honest opens output_held disk_held = absurd ends.0

    pub read_refused : (ending : Ending) → EndsReadOnly g old new Tells output ending
        → ((Wrote : List ℕ → Type 0) → Tells Wrote → ⊥) → (Rose (g.faults old) (g.faults new) → ⊥)
        → (status_of ending ≡ 5) ⊎ (status_of ending ≡ 9)
    read_refused BadJournal ends never disk_held = inl refl
    read_refused (NoMemory lack) ends never disk_held = inr refl
    read_refused DiskFault ends never disk_held = absurd (disk_held ends.0.1)
    read_refused Done ends never disk_held = absurd (never (WroteAll output) ends)
    read_refused WriteFault ends never disk_held = absurd (never (AppendsPart output.before output.after) ends.1)
    read_refused _ ends never disk_held = absurd ends.0

-- a journal that wasn't opened
module _ {D : Type 0} (g : Ghosts D) (old disk : D) (output : Stream) where
  pub no_office : (cause : StartCause) (ending : Ending) → HasNotOpened g old disk cause → SaysUnopened cause output ending
      → EndsNoOffice g old disk output ending × IsLeftAlone g old disk
  no_office (FaultyDisk count) DiskFault not said = ((said, not.told.1), not.alone)
  no_office NotAJournal BadJournal not said = ((NotAJournal, said, not.shown, not.told), not.alone)
  no_office (BadRecord n) BadJournal not said = ((BadRecord n, said, not.shown, not.told), not.alone)
  no_office (BadRecord n) (NoMemory lack) not said = ((said, not.told), not.alone)
  no_office (NoRoom lack) (NoMemory other_lack) not said = ((said, not.told), not.alone)
  no_office _ _ not said = absurd said

module _ {D : Type 0} (g : Ghosts D) (old disk : D) (Tells : (List ℕ → Type 0) → Type 0) (output : Stream) where
  pub ends_refused : (cause : StartCause) (ending : Ending) → HasNotOpened g old disk cause
      → SaysUnopened cause output ending → EndsReadOnly g old disk Tells output ending
  ends_refused (FaultyDisk count) DiskFault not said = no_office g old disk output (FaultyDisk count) DiskFault not said
  ends_refused NotAJournal BadJournal not said = no_office g old disk output NotAJournal BadJournal not said
  ends_refused (BadRecord n) BadJournal not said = no_office g old disk output (BadRecord n) BadJournal not said
  ends_refused (BadRecord n) (NoMemory lack) not said = no_office g old disk output (BadRecord n) (NoMemory lack) not said
  ends_refused (NoRoom lack) (NoMemory other_lack) not said = no_office g old disk output (NoRoom lack) (NoMemory other_lack) not said
  ends_refused _ _ not said = absurd said

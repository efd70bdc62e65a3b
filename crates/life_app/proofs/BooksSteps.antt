-- How `state` of all policies and `checkpoint` end over both disks
use Rattle.life_app.proofs.Names.{◌≡◌, ◌⊎◌, ℕ, List, inl, inr, refl, Option, Some, arith, Rose, Ghosts, Command, AreWords, Mode, IsOfTheFile, Opens, OpensToNone, FaultyDisk, NotAJournal, BadRecord, NoRoom, shown_opens_to_none, status_of, Input, Shelving, Stream, Ending, Done, BadJournal, WriteFault, DiskFault, NoMemory, EndsCheckpoint, AreBothQuiet, AreTrue, TwoDisks, HasJournal, HasNoJournal, AreTrusted, Filing, HasDiskFault, HasNewFault, Second, With, Without, filing_between, seen_by}
use Rattle.office_state.specs.declared.faults.StartCause.{StartCause}
use Rattle.program_endings.specs.Refusals.{SaysWhy}
use Rattle.stating_modes.proofs.Parts.{Saves, Writes, snapshot_text}
use Rattle.stating_modes.specs.Stated.{EndsStateKept}
use Rattle.stating_modes.specs.Telling.{EndsTelling, TellsSnapshot}
use Rattle.checkpoint_store.specs.declared.snapshot.Snapshot.{Snapshot}
use Rattle.life_app.specs.Reasons.{HasReason}

-- the file of a second disk between two moments, or none
abbrev pub second_between : {E : Type 0} → Ghosts E → (second kept : Option E) → Second
second_between e (Some second) (Some kept) = With (filing_between e second kept)
second_between e _ _ = Without

abbrev pub two_disks : {D E : Type 0} → (old new : D) → (second kept : E) → TwoDisks D E
two_disks old new second kept = record { old = old; new = new; second = second; kept = kept }

-- a file is refused as a journal for what its bytes are
of_the_file : (cause : StartCause) (output : Stream) → SaysWhy cause output → IsOfTheFile cause
of_the_file NotAJournal output said = tt
of_the_file (BadRecord n) output said = tt
of_the_file (FaultyDisk count) output said = said
of_the_file (NoRoom lack) output said = said

module _ {D E : Type 0} (g : Ghosts D) (e : Ghosts E) (disks : TwoDisks D E) (output : Stream) where
  abbrev journal : Filing
  journal = filing_between g disks.old disks.new

  abbrev other : Second
  other = With (filing_between e disks.second disks.kept)

  true_disks : AreTrusted journal other → AreTrue g e disks
  true_disks trusted = record { first_honest = trusted.0; second_honest = trusted.1; truth = trusted.2 }

  -- what both texts state: neither disk failed, and a true journal opens to commands
  abbrev Known : Type 0
  Known = TellsSnapshot g e disks (λ (s : Snapshot). Unit {0})

  abbrev pub EndsKnown : Ending → Type 0
  EndsKnown ending = EndsTelling g e disks (λ (Wrote : List ℕ → Type 0) (s : Snapshot). Unit {0}) output ending

  known_of : (IsSo : Snapshot → Type 0) → TellsSnapshot g e disks IsSo → Known
  known_of IsSo is = record { snapshot = is.snapshot; so = tt; held = is.held; quiet = is.quiet }

  known : (Tells : (List ℕ → Type 0) → Snapshot → Type 0) (ending : Ending) → EndsTelling g e disks Tells output ending → EndsKnown ending
  known Tells Done ends = known_of _ ends
  known Tells BadJournal ends = ends
  known Tells WriteFault ends = (ends.0, known_of _ ends.1)
  known Tells DiskFault ends = ends
  known Tells (NoMemory lack) ends = ends
  known Tells _ ends = absurd ends

  opens : Known → (are : AreTrue g e disks) → (commands : List Command) × Opens (g.reads disks.old) commands
  opens is are = (let held = is.held are in (held.commands, held.disk.opened are.first_honest))

  pub stated : (ending : Ending) → EndsStateKept g e disks output ending → EndsKnown ending
  stated ending ends = known (Writes snapshot_text) ending ends.telling

  pub saved : (ending : Ending) → EndsCheckpoint g e disks output ending → EndsKnown ending
  saved ending ends = known (Saves e disks) ending ends.telling

  not_quiet : HasNewFault journal other → AreBothQuiet g e disks → ⊥
  not_quiet (inl rose) quiet = omega (arith, rose, quiet.first)
  not_quiet (inr rose) quiet = omega (arith, rose, quiet.second)

  -- the count of one of the disks rose
  pub told : (ending : Ending) → HasNewFault journal other → (Rose output.faults_before output.faults_after → ⊥) → EndsKnown ending
      → (status_of ending ≡ 8) ⊎ (status_of ending ≡ 9)
  told Done rose held ends = absurd (not_quiet rose ends.quiet)
  told BadJournal rose held ends = absurd (not_quiet rose ends.3)
  told WriteFault rose held ends = absurd (held ends.0)
  told DiskFault rose held ends = inl refl
  told (NoMemory lack) rose held ends = inr refl
  told _ rose held ends = absurd ends

  opens_to_none : EndsKnown BadJournal → AreTrue g e disks → OpensToNone (g.reads disks.old)
  opens_to_none refused are =
      shown_opens_to_none (g.reads disks.old) refused.0 (of_the_file refused.0 output refused.1) (refused.2 are)

  -- the journal's file opens to commands, or to none
  pub done : (commands : List Command) (ending : Ending) → HasJournal journal other commands
      → (Rose output.faults_before output.faults_after → ⊥) → EndsKnown ending → (status_of ending ≡ 0) ⊎ (status_of ending ≡ 9)
  done commands Done file held ends = inl refl
  done commands BadJournal file held ends = absurd (opens_to_none ends (true_disks file.trusted) commands file.so)
  done commands WriteFault file held ends = absurd (held ends.0)
  done commands DiskFault file held ends = absurd (file.held ends.0)
  done commands (NoMemory lack) file held ends = inr refl
  done commands _ file held ends = absurd ends

  pub refused : (ending : Ending) → HasNoJournal journal other → EndsKnown ending → (status_of ending ≡ 5) ⊎ (status_of ending ≡ 9)
  refused Done none ends = (let held = opens ends (true_disks none.trusted) in absurd (none.so held.0 held.1))
  refused BadJournal none ends = inl refl
  refused WriteFault none ends = (let held = opens ends.1 (true_disks none.trusted) in absurd (none.so held.0 held.1))
  refused DiskFault none ends = absurd (none.held ends.0)
  refused (NoMemory lack) none ends = inr refl
  refused _ none ends = absurd ends

  -- why it ended so, of a mode that opens both
  pub reason : (words : List (List ℕ)) (input : Input) (shelf : Shelving) (mode : Mode) → AreWords words mode
      → (AreTrusted journal (seen_by mode other) → AreTrusted journal other) → (HasDiskFault Rose journal other → HasDiskFault Rose journal (seen_by mode other))
      → (ending : Ending) → EndsKnown ending → HasReason words input output shelf journal other ending
  reason words input shelf mode asked seen failed Done ends = tt
  reason words input shelf mode asked seen failed BadJournal ends = (mode, asked, (ends.0, ends.1, λ trusted. ends.2 (true_disks (seen trusted))))
  reason words input shelf mode asked seen failed WriteFault ends = ends.0
  reason words input shelf mode asked seen failed DiskFault ends = (mode, asked, failed ends.0)
  reason words input shelf mode asked seen failed (NoMemory lack) ends = tt
  reason words input shelf mode asked seen failed _ ends = absurd ends

-- How `state` ends, by what its parts did
use Rattle.stating_modes.proofs.Names.{◌≡◌, ℕ, ◌+◌, ◌<◌, List, [], ◌∷◌, ◌++◌, length, take, get_or, ap, sym, ◌∙◌, subst, inl, Some, Result, Ok, Err, Vec, Global, append-nil, IfOk, slice_get, flat_map, AllByRecursion, Rose, AppendsPart, Ghosts, Command, Policy, book, opened_on, policy_text, IsUnfinished, LooksOn, StartCause, FaultyDisk, NotAJournal, BadRecord, NoRoom, IsLeftAlone, IsLeftBy, Opens, TellsFault, CountsNow, ReadsImage, IsValid, IsSound, Ending, Stream, WroteAll, EndsText, account_text, policy_entries, policy_account, EndsState, IsStated, EndsReading, HasNotRead, HasRead, IsAccounted}
use Rattle.std.proofs.Math.Seq.{take-length}
use Rattle.std.proofs.lemmas.Grind.{flat_map-append}
use Rattle.std.proofs.lemmas.List.{take_more}
use Rattle.std.proofs.lemmas.Option.{slice_get-get_or}
use Rattle.memory_requests.specs.declared.evidence.NoMemory.{NoMemory as Refusal}
use Rattle.policy_machine.proofs.LedgerLemmas.{sum_of-ledger}
use Rattle.std.proofs.lemmas.List.Elements.{All-from_recursion}
use Rattle.policy_machine.proofs.BookLemmas.{book-sound}
use Rattle.program_endings.specs.declared.ending.Ending.TheVariants.{Done, BadJournal, WriteFault, DiskFault, NoMemory}
use Rattle.program_endings.specs.Refusals.{SaysWhy, SaysUnopened}
use Rattle.program_endings.proofs.ListSteps.{all_take}
use Rattle.stating_modes.specs.declared.rereading.Account.{Account}
use Rattle.stating_modes.proofs.LookSteps.{alone_still, file_left, finished_left, later_left, left_renamed, left_still}

-- an account's text is that of its policy after the commands
account_is : {D : Type 0} {g : Ghosts D} {old new : D} {id : ℕ} (account : Account) (read : HasRead g old new account id)
    → account_text account.entries.items account.id account.policy ≡ policy_account id read.commands
account_is {id = id} account read =
    let commands = read.commands in
    ap (λ es. account_text es account.id account.policy) read.holds.entries
    ∙ ap (λ p. account_text (policy_entries commands account.id) account.id p) read.holds.policy
    ∙ ap (λ n. policy_account n commands) read.named

-- an office that was opened on this disk and closed
pub opened_left : {D : Type 0} (g : Ghosts D) (begun old disk : D) (commands : List Command) → begun ≡ old
    → IsLeftBy g begun disk (opened_on commands (g.faults begun)) [] → IsLeftBy g old disk (opened_on commands (g.faults old)) []
opened_left {D = D} g begun old disk commands same left =
    subst (λ (d : D). IsLeftBy g d disk (opened_on commands (g.faults d)) []) same left

module _ {D : Type 0} (g : Ghosts D) (old disk : D) (text_of : List Command → List ℕ) (output : Stream) where
  stated : (commands : List Command) (Wrote : List ℕ → Type 0) → IsLeftBy g old disk (opened_on commands (g.faults old)) []
      → Wrote (text_of commands) → IsStated g old disk text_of Wrote
  stated commands Wrote left wrote = record {
    commands = commands;
    so = (wrote, sum_of-ledger commands);
    disk = left;
  }

  -- an office that was opened, whose text was made and written
  pub ends_text : (commands : List Command) (ending : Ending) (text : Result (Vec ℕ Global) Refusal)
      → IsLeftBy g old disk (opened_on commands (g.faults old)) []
      → IfOk text (λ t. t.items ≡ text_of commands) → EndsText text output ending → EndsState g old disk text_of output ending
  ends_text commands Done (Ok text) left same ends =
      stated commands (WroteAll output) left (subst (WroteAll output) same ends)
  ends_text commands WriteFault (Ok text) left same ends = (
    ends.0,
    stated commands (AppendsPart output.before output.after) left (subst (AppendsPart output.before output.after) same ends.1),
  )
  ends_text commands (NoMemory other_lack) (Err lack) left same ends = ((ends, left.faults), left.alone tt)
  ends_text commands _ (Ok text) left same ends = absurd ends
  ends_text commands _ (Err lack) left same ends = absurd ends

-- an account that was read, whose text was made and written
module _ {D : Type 0} (g : Ghosts D) (old new : D) (id : ℕ) (output : Stream) where
  pub reading_ends : (account : Account) (ending : Ending) (text : Result (Vec ℕ Global) Refusal) → HasRead g old new account id
      → IfOk text (λ t. t.items ≡ account_text account.entries.items account.id account.policy)
      → EndsText text output ending → EndsReading g old new id output ending
  reading_ends account Done (Ok text) read same ends =
      record { account = account; read = read; wrote = subst (WroteAll output) (same ∙ account_is account read) ends }
  reading_ends account WriteFault (Ok text) read same ends = (
    ends.0,
    record { account = account; read = read; wrote = subst (AppendsPart output.before output.after) (same ∙ account_is account read) ends.1 },
  )
  reading_ends account (NoMemory other_lack) (Err lack) read same ends = (ends, read.honesty, read.quiet, read.unwritten)
  reading_ends account _ (Ok text) read same ends = absurd ends
  reading_ends account _ (Err lack) read same ends = absurd ends

  -- a journal that wasn't opened
  pub reading_refused : (cause : StartCause) (ending : Ending) → HasNotRead g old new cause → SaysUnopened cause output ending
      → EndsReading g old new id output ending
  reading_refused (FaultyDisk count) DiskFault not said = (count, said, not)
  reading_refused NotAJournal BadJournal not said = (NotAJournal, said, not)
  reading_refused (BadRecord n) BadJournal not said = (BadRecord n, said, not)
  reading_refused (BadRecord n) (NoMemory lack) not said = (said, not.honesty, not.told, not.unwritten)
  reading_refused (NoRoom lack) (NoMemory other_lack) not said = (said, not.honesty, not.told, not.unwritten)
  reading_refused _ _ not said = absurd said

-- a second reading, on the disk that an office left
module _ {D : Type 0} (g : Ghosts D) (counts_now : CountsNow g) (reads_image : ReadsImage g) (old mid new : D) (id : ℕ) (output : Stream)
    (commands : List Command) (left : IsLeftBy g old mid (opened_on commands (g.faults old)) []) where
  looks : (g.honest new → g.honest mid) → (g.honest new → ¬ IsUnfinished (g.reads mid) → LooksOn g mid new) → g.honest new → LooksOn g mid new
  looks honesty unwritten honest = unwritten honest (finished_left g old mid commands left reads_image (honesty honest))

  read_alone : (g.honest new → g.honest mid) → (g.honest new → ¬ IsUnfinished (g.reads mid) → LooksOn g mid new) → IsLeftAlone g old new
  read_alone honesty unwritten =
      alone_still g counts_now old mid new honesty (looks honesty unwritten) (later_left g old mid commands left) (left.alone tt)

  -- the file that the office left opens to the same commands
  opens_still : g.honest mid → Opens (g.reads mid) commands
  opens_still honest = inl (file_left g old mid commands left reads_image honest)

  read_stated : (Wrote : List ℕ → Type 0) → IsAccounted g mid new id Wrote → IsStated g old new (policy_account id) Wrote
  read_stated Wrote accounted =
      let read = accounted.read in
      let same : g.honest new → read.commands ≡ commands =
      λ honest. read.opened honest commands (opens_still (read.honesty honest)) in
      stated g old new (policy_account id) output read.commands Wrote
      (left_renamed g old new commands
      (left_still g counts_now old mid new read.honesty (looks read.honesty read.unwritten) (opened_on commands (g.faults old)) [] left read.quiet)
      read.commands same)
      accounted.wrote

  never_refused : (cause : StartCause) (output : Stream) → SaysWhy cause output → HasNotRead g mid new cause → g.honest new → ⊥
  never_refused NotAJournal output said not honest = not.shown honest tt commands (opens_still (not.honesty honest))
  never_refused (BadRecord n) output said not honest = not.shown honest tt commands (opens_still (not.honesty honest))
  never_refused (FaultyDisk count) output said not honest = said
  never_refused (NoRoom lack) output said not honest = said

  still : (cause : StartCause) → SaysWhy cause output → TellsFault (g.faults mid) (g.faults new) cause → g.faults new ≡ g.faults mid
  still NotAJournal said told = told
  still (BadRecord n) said told = told
  still (FaultyDisk count) said told = absurd said
  still (NoRoom lack) said told = absurd said

  pub ends_reading : (ending : Ending) → EndsReading g mid new id output ending → EndsState g old new (policy_account id) output ending
  ends_reading Done ends = read_stated (WroteAll output) ends
  ends_reading WriteFault ends = (ends.0, read_stated (AppendsPart output.before output.after) ends.1)
  ends_reading BadJournal ends = (
    (
      ends.0,
      ends.1,
      (λ honest. absurd (never_refused ends.0 output ends.1 ends.2 honest)),
      still ends.0 ends.1 ends.2.told ∙ left.faults,
    ),
    read_alone ends.2.honesty ends.2.unwritten,
  )
  ends_reading DiskFault ends = (
    (ends.1, subst (λ n. Rose n (g.faults new)) left.faults ends.2.told.1),
    read_alone ends.2.honesty ends.2.unwritten,
  )
  ends_reading (NoMemory lack) ends = ((ends.0, ends.2 ∙ left.faults), read_alone ends.1 ends.3)
  ends_reading _ ends = absurd ends

-- one more line
pub lines_more : (commands : List Command) (index count : ℕ) (policy : Policy) (text : List ℕ) → count ≡ length commands
    → index < length (book (take count commands)) → slice_get (book (take count commands)) index ≡ Some policy
    → text ≡ flat_map policy_text (take index (book commands))
    → text ++ policy_text policy ≡ flat_map policy_text (take (index + 1) (book commands))
lines_more commands index count policy text all within here so_far =
    let policies : book (take count commands) ≡ book commands = ap (λ n. book (take n commands)) all ∙ ap book (take-length commands) in
    let inside : index < length (book commands) = subst (λ (ps : List Policy). index < length ps) policies within in
    let there : slice_get (book commands) index ≡ Some policy = subst (λ (ps : List Policy). slice_get ps index ≡ Some policy) policies here in
    let same : get_or (book commands) index policy ≡ policy = (let found = slice_get-get_or (book commands) index policy inside in cc) in
    ap (λ t. t ++ policy_text policy) so_far
    ∙ sym (ap (flat_map policy_text) (take_more (book commands) index policy inside ∙ ap (λ p. take index (book commands) ++ p ∷ []) same)
    ∙ flat_map-append policy_text (take index (book commands)) (policy ∷ [])
    ∙ ap (λ t. flat_map policy_text (take index (book commands)) ++ t) (append-nil (policy_text policy)))

-- the policies of valid commands are sound, each of them
pub policy_sound : (commands : List Command) (position index : ℕ) (policy : Policy) → AllByRecursion IsValid commands
    → index < length (book (take position commands)) → slice_get (book (take position commands)) index ≡ Some policy → IsSound policy
policy_sound commands position index policy valid within here =
    let policies = book (take position commands) in
    let sound = All-from_recursion IsSound policies (book-sound (take position commands) (all_take IsValid position commands valid)) in
    let same : get_or policies index policy ≡ policy = (let found = slice_get-get_or policies index policy within in cc) in
    subst IsSound same (sound index policy within)

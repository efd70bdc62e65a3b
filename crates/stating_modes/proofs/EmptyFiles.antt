-- What is reported of an empty file over two disks
use Rattle.stating_modes.proofs.Names.{◌≡◌, ℕ, List, [], ◌∷◌, ◌++◌, length, codes, decimal, arith, inr, inl, refl, ap, ap₂, ◌∙◌, subst, lit≤, Rose, AppendsPart, Ghosts, flat_map, Command, Policy, book, EndsState, IsStated, balance_text, policy_text, IsSnapshotOf, Snapshot, IsLeftAlone, Opens, opens_to_one, Ending, Stream, WroteAll, WroteLine, EndsStateKept, snapshot_text, AreTrue, IsHeldWhereTrue, TwoDisks, books_of, Writes}
use Rattle.std.specs.Fmt.{digits}
use Rattle.money_ledgers.specs.Balances.{balances}
use Rattle.policy_types.specs.Accounts.{Booking}
use Rattle.policy_machine.proofs.LedgerLemmas.{sum_of-ledger}
use Rattle.text_lines.specs.Lines.{line_of}
use Rattle.program_endings.proofs.WorkedEndings.{refuses_hello}
use Rattle.program_endings.specs.declared.ending.Ending.TheVariants.{Done, BadJournal, WriteFault, DiskFault, NoMemory}
use Rattle.stating_modes.specs.Telling.{EndsTelling, TellsSnapshot}
use Rattle.stating_modes.specs.Worked.{KeepsAnEmptyFile, RefusesHelloByTwo, SavesNothing, TellsNoLie}

no_commands : (bytes : List ℕ) (commands : List Command) → bytes ≡ [] → Opens bytes commands → commands ≡ []
no_commands bytes commands empty opens =
    opens_to_one [] commands [] (subst (λ (xs : List ℕ). Opens xs commands) empty opens) (inr (refl, inl (lit≤ tt)))

-- a snapshot of commands has their text
pub text_same : (commands : List Command) (s : Snapshot) → IsSnapshotOf commands s → snapshot_text s ≡ books_of commands
text_same commands s of =
    ap (λ (ps : List Policy). flat_map policy_text ps ++ balance_text (balances s.ledger) s.position) of.policies
    ∙ ap₂ (λ (b : Booking) (n : ℕ). flat_map policy_text (book commands) ++ balance_text b n) of.ledger of.position

-- so `state` writes what it writes without the second disk
pub stated_so : {D E : Type 0} (g : Ghosts D) (e : Ghosts E) (disks : TwoDisks D E) (Wrote : List ℕ → Type 0) → AreTrue g e disks
    → TellsSnapshot g e disks (λ s. Wrote (snapshot_text s)) → IsStated g disks.old disks.new books_of Wrote
stated_so g e disks Wrote are told =
    let held = told.held are in
    record {
      commands = held.commands;
      so = (subst Wrote (text_same held.commands told.snapshot held.so) told.so, sum_of-ledger held.commands);
      disk = held.disk;
    }

pub ends_the_same : {D E : Type 0} (g : Ghosts D) (e : Ghosts E) (disks : TwoDisks D E) (output : Stream) (ending : Ending) → AreTrue g e disks
    → ¬ Rose (e.faults disks.second) (e.faults disks.kept) → EndsStateKept g e disks output ending
    → EndsState g disks.old disks.new books_of output ending
ends_the_same g e disks output ending are held ends = by ending ends.telling
  where
    by : (ending : Ending) → EndsTelling g e disks (Writes snapshot_text) output ending → EndsState g disks.old disks.new books_of output ending
    by Done told = stated_so g e disks (WroteAll output) are told
    by WriteFault told = (told.0, stated_so g e disks (AppendsPart output.before output.after) are told.1)
    by BadJournal refused = ((refused.0, refused.1, (λ honest. refused.2 are), refused.3.first), ends.first)
    by DiskFault told = elim told.0 [
      | inl rose ↦ ((told.1, rose), ends.first)
      | inr rose ↦ absurd (held rose)
    ]
    by (NoMemory lack) told = ((told.0, told.1.first), ends.first)
    by _ told = absurd told

pub keeps_nothing : {D E : Type 0} (g : Ghosts D) (e : Ghosts E) → KeepsAnEmptyFile g e
unfolding digits balance_text
keeps_nothing g e disks output are empty = (
  λ ends.
      let told = ends.telling in
      let held = told.held are in
      let none = no_commands (g.reads disks.old) held.commands empty (held.disk.opened are.first_honest) in
      subst (λ (commands : List Command). WroteAll output (books_of commands)) none
      (subst (WroteAll output) (text_same held.commands told.snapshot held.so) told.so),
  λ ends.
      let saved = ends.telling in
      let held = saved.held are in
      let none = no_commands (g.reads disks.old) held.commands empty (held.disk.opened are.first_honest) in
      let zero : saved.snapshot.position ≡ 0 = held.so.position ∙ ap length none in
      subst (λ (n : ℕ). WroteAll output (line_of (codes "checkpoint") (decimal n ∷ []))) zero saved.so.0,
)

pub no_lie : TellsNoLie
no_lie bytes bodies opened s is within = let no : 0 ≡ 1 = is.opened in absurd (omega (arith, no))

empty_position : {D E : Type 0} (g : Ghosts D) (e : Ghosts E) (disks : TwoDisks D E) (s : Snapshot) → AreTrue g e disks → g.reads disks.old ≡ []
    → IsHeldWhereTrue g e disks s → s.position ≡ 0
empty_position g e disks s are empty held =
    let of = held are in
    of.so.position ∙ ap length (no_commands (g.reads disks.old) of.commands empty (of.disk.opened are.first_honest))

pub saves_nothing : {D E : Type 0} (g : Ghosts D) (e : Ghosts E) → SavesNothing g e
saves_nothing g e disks output image are empty left = (
  λ ends.
      let saved = ends.telling in
      (saved.snapshot, saved.so.1 are.second_honest image left, empty_position g e disks saved.snapshot are empty saved.held),
  λ ends. elim (ends.now are.second_honest image left) [
    | inl none ↦ inl none
    | inr (inl earlier) ↦ inr (inl earlier)
    | inr (inr held) ↦ inr (inr (held.0, held.1, empty_position g e disks held.0 are empty held.2))
  ],
)

-- a file that is no journal is refused as with one disk
pub hello_refused : {D E : Type 0} (g : Ghosts D) (e : Ghosts E) (disks : TwoDisks D E) (output : Stream) → AreTrue g e disks
    → g.reads disks.old ≡ codes "hello" → IsLeftAlone g disks.old disks.new → EndsTelling g e disks (Writes snapshot_text) output BadJournal
    → WroteLine output (codes "badjournal,notajournal")
hello_refused g e disks output are reads alone refused = refuses_hello g disks.old disks.new output are.first_honest reads
    (refused.0, refused.1, (λ honest. refused.2 are), refused.3.first)

pub refuses_by_two : {D E : Type 0} (g : Ghosts D) (e : Ghosts E) → RefusesHelloByTwo g e
refuses_by_two g e disks output are reads ends =
    (hello_refused g e disks output are reads ends.first ends.telling, (ends.second.looks are.second_honest).reads)

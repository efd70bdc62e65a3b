-- What is promised of a script's run follows from what the program does
use Rattle.life_app.proofs.Names.{◌≡◌, ℕ, ℤ, ◌⊎◌, List, [], ◌∷◌, ◌++◌, refl, ap, sym, ◌∙◌, subst, inl, inr, Option, Result, Ok, Err, AllZip, false≢true, Dated, Ghosts, Reads, Command, Reply, Floor, Pinned, PinRefused, Entry, Lane, accepted_of, Terminal, Row, Bounds, Both, Word, IsLeftAlone, Opens, Auditor, Ending, Usage, NoMemory, status_of, EndsNoBasis, Input, IsWholeInput, Shelving, Stream, EndsScript, IsRunOf, EndsLanes, EndsRun, EndsUnread, IsReadAs, Mode, Run, Does, EndsMode, Obeys, SaysUnasked, AreOnce, table_reserves, run_wording, AskForRun, IsEnclosingRow, IsGivenBasis, IsPromised, IsToldLine, IsToldText, IsUnrun, IsWorthBy, EndsNoOffice}
use Rattle.watcher_set.specs.Evidence.{a_lack}
use Rattle.std.specs.Prelude.{take}
use Rattle.basis_shelf.specs.Bases.{IsBasis}
use Rattle.basis_shelf.proofs.OneBasis.{one_basis}
use Rattle.command_csv.proofs.OneReading.{one_reading}
use Rattle.plan_benefits.specs.Shapes.{shape_of}
use Rattle.plan_benefits.specs.declared.fault.NotValued.{NotValued}
use Rattle.policy_types.specs.declared.policy.Policy.{Policy}
use Rattle.policy_types.specs.declared.script.Line.{Line}
use Rattle.policy_types.specs.declared.script.Line.TheVariants.{Post, Value, Trim}
use Rattle.policy_machine.specs.Book.{book}
use Rattle.std.specs.Prelude.{MatchResult}
use Rattle.policy_value.specs.Covers.{AreByDuration, cap_along, cover_along}
use Rattle.policy_value.specs.Measures.{IsExactFor, IsWorthOf, exact_reserve}
use Rattle.policy_value.specs.Rows.{IsYear}
use Rattle.policy_value.specs.declared.worth.Worth.{Worth}
use Rattle.rate_table.specs.declared.shape.Shape.{Shape}
use Rattle.lane_runner.specs.AnsweredLines.{AnsweredLine}
use Rattle.office_state.proofs.HistorySteps.{there_opens}
use Rattle.policy_value.specs.Rows.{IsValuedRow}
use Rattle.script_run.proofs.ScriptStatus.{one_whole}
use Rattle.life_args.proofs.Answering.{ask_once}

-- the rounded bounds of a row are bounds of the exact reserve
worth_by : (policy : Policy) (entry : Dated) (on : ℤ) (shape : Result Shape NotValued) (t : ℕ) (worth : Worth)
    → shape_of policy.plan policy.age policy.years entry.table ≡ shape
    → MatchResult shape (λ s. IsYear policy.issued on s.n t
    × IsWorthOf Terminal policy (cover_along entry.table s entry.bp) (cap_along entry.table s.age entry.bp) t worth
    × AreByDuration entry.table s.age (cover_along entry.table s entry.bp) (cap_along entry.table s.age entry.bp)
    × IsExactFor Terminal policy (cover_along entry.table s entry.bp) (cap_along entry.table s.age entry.bp) t worth)
    (λ why. (t ≡ 0) × (worth ≡ Word why)) → IsWorthBy table_reserves policy entry on t worth
worth_by policy entry on (Ok shape) t (Bounds lo hi) is value =
    (shape.n, (exact_reserve Terminal policy.status (cover_along entry.table shape entry.bp) (cap_along entry.table shape.age entry.bp) t, record { shape = shape; shaped = is; covered = refl; rates = value.2; exact = refl }, value.0, value.3))
worth_by policy entry on (Ok shape) t (Word why) is value = let never = value.1 in cc
worth_by policy entry on (Ok shape) t (Both lo hi min_lo min_hi test) is value = let never = value.1 in cc
worth_by policy entry on (Err word) t (Bounds lo hi) is value = let never = value.1 in cc
worth_by policy entry on (Err word) t (Both lo hi min_lo min_hi test) is value = let never = value.1 in cc
worth_by policy entry on (Err word) t (Word why) is value = let same = value.1 in cc

-- there is one shape, and so one exact reserve
pub once : AreOnce table_reserves
once = record {
  one = λ policy entry years other t reserve another is too.
      let both = sym is.shaped ∙ too.shaped in
      let same : is.shape ≡ too.shape = cc in (
        is.covered ∙ ap (λ (s : Shape). s.n) same ∙ sym too.covered,
        is.exact
            ∙ ap (λ (s : Shape). exact_reserve Terminal policy.status (cover_along entry.table s entry.bp) (cap_along entry.table s.age entry.bp) t) same
            ∙ sym too.exact,
      );
  none = λ policy entry years t reserve why is lacks. let never = sym is.shaped ∙ lacks in cc;
}

pub enclosing : (basis : List Dated) (on : ℤ) (policy : Policy) (row : Row) → IsValuedRow basis on Terminal policy row → IsEnclosingRow table_reserves basis on policy row
enclosing basis on policy row is = record {
  id = is.id;
  status = is.status;
  insured = λ insured index entry picked. worth_by policy entry on (shape_of policy.plan policy.age policy.years entry.table) row.t row.worth refl
      (is.worth.named insured index entry picked);
  unnamed = λ insured none. (is.worth.unnamed insured none).1;
  uninsured = λ never. (is.worth.uninsured never).1;
}

pub each_pair : {A B : Type 0} (P Q : A → B → Type 0) → ((a : A) (b : B) → P a b → Q a b) → (xs : List A) (ys : List B)
    → AllZip P xs ys → AllZip Q xs ys
each_pair P Q step [] [] all = tt
each_pair P Q step [] (y ∷ ys) all = absurd all
each_pair P Q step (x ∷ xs) [] all = absurd all
each_pair P Q step (x ∷ xs) (y ∷ ys) all = (step x y all.0, each_pair P Q step xs ys all.1)

-- a text of other rows
other_rows : (IsRow Other : ℤ → Policy → Row → Type 0) → ((on : ℤ) (policy : Policy) (row : Row) → IsRow on policy row → Other on policy row)
    → (clerk : ℕ) (line : Line) (reply : Reply) (commands : List Command) (IsDry : Type 0) (text : List ℕ)
    → IsToldText run_wording IsRow clerk line reply commands IsDry text → IsToldText run_wording Other clerk line reply commands IsDry text
other_rows IsRow Other each clerk (Post command) reply commands IsDry text is = is
other_rows IsRow Other each clerk Trim (Floor floor) commands IsDry text is = is
other_rows IsRow Other each clerk (Value on at workers) (PinRefused refusal) commands IsDry text is = is
other_rows IsRow Other each clerk (Value on at workers) (Pinned position policies) commands IsDry text is = elim is [
  | inl dry ↦ inl dry
  | inr rows ↦ inr (
    rows.0,
    (rows.1.0, each_pair (IsRow on) (Other on) (each on) (book (take position commands)) rows.1.0 rows.1.1, rows.1.2),
  )
]
other_rows _ _ _ _ _ _ _ _ _ is = absurd is

-- the texts of a run's lines
told_lines : (commands : List Command) (history : List Entry) (basis : List Dated) (dry : List ℕ) (lines : List AnsweredLine) (texts : List (List ℕ))
    → AllZip (IsToldLine run_wording (λ on. IsValuedRow basis on Terminal) commands history dry) lines texts
    → AllZip (IsToldLine run_wording (IsEnclosingRow table_reserves basis) commands history dry) lines texts
told_lines commands history basis dry lines texts =
    each_pair (IsToldLine run_wording (λ on. IsValuedRow basis on Terminal) commands history dry)
    (IsToldLine run_wording (IsEnclosingRow table_reserves basis) commands history dry)
    (λ line text is. other_rows (λ on. IsValuedRow basis on Terminal) (IsEnclosingRow table_reserves basis) (enclosing basis)
    line.clerk line.line line.first.1.reply (commands ++ accepted_of (take line.first.0 history)) _ text is) lines texts

module _ {D : Type 0} (g : Ghosts D) (old new : D) (output : Stream) where
  -- a run that ended so
  pub promised : (lanes : List Lane) (basis : List Dated) (auditors : List Auditor) (ending : Ending)
      → IsRunOf g old new lanes basis auditors output ending
      → IsPromised g Opens run_wording table_reserves old new lanes basis auditors output (status_of ending)
  promised lanes basis auditors ending ran = record {
    commands = ran.commands;
    history = ran.history;
    opened = ran.opened;
    legal = ran.legal;
    callers = ran.callers;
    dry = ran.dry;
    lines = ran.lines;
    distinct = ran.distinct;
    theirs = ran.theirs;
    answered = ran.answered;
    texts = ran.texts;
    told = told_lines ran.commands ran.history basis ran.dry ran.lines ran.texts ran.told;
    ending = ending;
    exits = refl;
    wrote = ran.wrote;
    shown = ran.shown;
    now = λ honest image left. there_opens ran.commands ran.history (accepted_of ran.history) image (ran.disk.now honest image left);
    since = ran.disk.since;
    synced = λ honest.
        let synced = ran.disk.synced honest in
        (synced.0, synced.1.later, synced.1.passed, λ image left. synced.1.safe image left ∙ synced.1.reads, synced.2);
  }

  -- by the history, the lines and the texts by which it ended
  pub of_one_history : (lanes : List Lane) (basis : List Dated) (auditors : List Auditor) (ending : Ending)
      (ran : IsRunOf g old new lanes basis auditors output ending)
      → (is : IsPromised g Opens run_wording table_reserves old new lanes basis auditors output (status_of ending))
      × (is.commands ≡ ran.commands) × (is.history ≡ ran.history) × (is.callers ≡ ran.callers) × (is.dry ≡ ran.dry)
      × (is.lines ≡ ran.lines) × (is.texts ≡ ran.texts) × (is.ending ≡ ending)
  unfolding promised
  of_one_history lanes basis auditors ending ran =
      (promised lanes basis auditors ending ran, refl, refl, refl, refl, refl, refl, refl)

  module _ (name : List ℕ) (input : Input) (shelf : Shelving) where
    -- what is said in place of a transcript
    abbrev Says : Ending → Type 0
    Says ending = EndsUnread input output ending ⊎ EndsNoBasis name shelf output ending ⊎ EndsNoOffice g old new output ending

    -- a run that answered no line, and left the disk alone or didn't touch it
    unrun_alone : (ending : Ending) → Says ending → IsLeftAlone g old new
        → IsUnrun g Opens old new name input output shelf (status_of ending)
    unrun_alone ending says alone = record { ending = ending; exits = refl; says = says; since = alone.since }

    pub unrun_untouched : (ending : Ending) → Says ending → new ≡ old
        → ((disk : D) (image : List ℕ) → g.honest disk → g.left_since disk (g.clock disk) image → g.may_leave disk image)
        → IsUnrun g Opens old new name input output shelf (status_of ending)
    unrun_untouched ending says same only_now = record {
      ending = ending;
      exits = refl;
      says = says;
      since = λ honest image left. inl (only_now old image (subst (λ (d : D). g.honest d) same honest)
          (subst (λ (d : D). g.left_since d (g.clock old) image) same left));
    }

    -- what is promised, of a run or of none
    abbrev pub Told : List Lane → List Dated → List Auditor → ℕ → Type 0
    Told lanes basis auditors status =
        IsPromised g Opens run_wording table_reserves old new lanes basis auditors output status ⊎ IsUnrun g Opens old new name input output shelf status

    -- how a script's run ends, by what was written
    by_ending : (lanes : List Lane) (basis : List Dated) (auditors : List Auditor) (ending : Ending)
        → EndsScript g old new lanes basis auditors output ending → Told lanes basis auditors (status_of ending)
    by_ending lanes basis auditors ending ends = elim ends [
      | inl ran ↦ inl (promised lanes basis auditors ending ran)
      | inr said ↦ inr (unrun_alone ending (inr (inr said.0)) said.1)
    ]

    module _ (only_now : (disk : D) (image : List ℕ) → g.honest disk → g.left_since disk (g.clock disk) image → g.may_leave disk image) where
      -- without a basis the disk isn't touched
      without_basis : (lanes : List Lane) (basis : List Dated) (auditors : List Auditor) (ending : Ending) → new ≡ old
          → EndsNoBasis name shelf output ending → Told lanes basis auditors (status_of ending)
      without_basis lanes basis auditors ending same ends = inr (unrun_untouched ending (inr (inl ends)) same only_now)

      -- and there is none without a script
      without_script : (lanes : List Lane) (basis : List Dated) (auditors : List Auditor) (ending : Ending) → new ≡ old
          → EndsUnread input output ending → Told lanes basis auditors (status_of ending)
      without_script lanes basis auditors ending same ends = inr (unrun_untouched ending (inl ends) same only_now)

      -- the lanes by the basis that is given
      by_lanes : (lanes : List Lane) (basis : List Dated) (auditors : List Auditor) (ShelfStays : Type 0) (ending : Ending)
          → IsGivenBasis IsBasis lanes name shelf basis → EndsLanes g old new lanes name auditors shelf output ShelfStays ending
          → Told lanes basis auditors (status_of ending)
      by_lanes lanes basis auditors ShelfStays ending (inl none) (inl ends) =
          subst (λ (b : List Dated). Told lanes b auditors (status_of ending)) (sym none.1) (by_ending lanes [] auditors ending ends.2)
      by_lanes lanes basis auditors ShelfStays ending (inl none) (inr ends) = absurd (false≢true (sym none.0 ∙ ends.0))
      by_lanes lanes basis auditors ShelfStays ending (inr given) (inl ends) = absurd (false≢true (sym ends.0 ∙ given.0))
      by_lanes lanes basis auditors ShelfStays ending (inr given) (inr (asks, inl by)) =
          subst (λ (b : List Dated). Told lanes b auditors (status_of ending))
          (one_basis given.1.0 name by.basis basis (by.is given.1.0 given.1.1) given.1.2) (by_ending lanes by.basis auditors ending by.ends)
      by_lanes lanes basis auditors ShelfStays ending (inr given) (inr (asks, inr none)) =
          without_basis lanes basis auditors ending none.0 none.1

      -- the script that is given
      pub by_script : (lanes : List Lane) (basis : List Dated) (auditors : List Auditor) (bytes : List ℕ) (ShelfStays : Type 0)
          (ending : Ending) → IsWholeInput input bytes → Reads bytes lanes → IsGivenBasis IsBasis lanes name shelf basis
          → EndsRun g old new name auditors input output shelf ShelfStays ending → Told lanes basis auditors (status_of ending)
      by_script lanes basis auditors bytes ShelfStays ending whole reads given (inl read) =
          let same : read.lanes ≡ lanes =
          one_reading bytes read.lanes lanes
          (subst (λ (bs : List ℕ). IsReadAs bs read.lanes) (one_whole input read.bytes bytes read.gave whole) read.read).1 reads in
          by_lanes lanes basis auditors ShelfStays ending given
          (subst (λ (ls : List Lane). EndsLanes g old new ls name auditors shelf output ShelfStays ending) same read.ends)
      by_script lanes basis auditors bytes ShelfStays ending whole reads given (inr unread) =
          without_script lanes basis auditors ending unread.0 unread.2

      -- arguments that ask for a run were read, or there was no memory for them
      unasked_run : (words : List (List ℕ)) (ending : Ending) → AskForRun words name → new ≡ old → SaysUnasked words output ending
          → IsUnrun g Opens old new name input output shelf (status_of ending)
      unasked_run words Usage asked same says = absurd (says.0 (Run name) asked)
      unasked_run words (NoMemory lack) asked same says = unrun_untouched (NoMemory a_lack) (inl says) same only_now
      unasked_run words _ asked same says = absurd says

      -- what the arguments ask for, and how it ended, whatever the second disk
      module _ {E : Type 0} (e : Ghosts E) (second kept : Option E) (lanes : List Lane) (basis : List Dated) (auditors : List Auditor)
          (bytes : List ℕ) (words : List (List ℕ)) (InputStays ShelfStays : Type 0) where
        by_words : (ending : Ending) → AskForRun words name
            → IsWholeInput input bytes → Reads bytes lanes → IsGivenBasis IsBasis lanes name shelf basis
            → Does g e old new second kept words auditors input output shelf InputStays ShelfStays ending
            → Told lanes basis auditors (status_of ending)
        by_words ending asked whole reads given (inl (mode, for, ends)) =
            let run : EndsMode g e old new second kept (Run name) auditors input output shelf InputStays ShelfStays ending =
            subst (λ (m : Mode). EndsMode g e old new second kept m auditors input output shelf InputStays ShelfStays ending)
            (ask_once words mode (Run name) for asked) ends in
            by_script lanes basis auditors bytes ShelfStays ending whole reads given run.1
        by_words ending asked whole reads given (inr unasked) =
            inr (unasked_run words ending asked unasked.0 unasked.4)

        pub headline : (status : ℕ)
            → Obeys g e old new second kept words auditors input output shelf InputStays ShelfStays status → AskForRun words name
            → IsWholeInput input bytes → Reads bytes lanes → IsGivenBasis IsBasis lanes name shelf basis
            → Told lanes basis auditors status
        headline status obeys asked whole reads given =
            subst (λ (s : ℕ). Told lanes basis auditors s) (sym obeys.exits) (by_words obeys.ending asked whole reads given obeys.does)

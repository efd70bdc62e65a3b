-- An office at which one caller turned, to pin a position, read the policies there and give the pin up
use Rattle.std.proofs.Common.{◌≡◌, ℕ, true, false, List, [], ◌∷◌, ◌++◌, map, take, Some, None, refl, ap, sym, ◌∙◌, subst, inl, inr, Option}
use Rattle.std.specs.List.{Contains, cons_option, enumerate_from, filter_map, last_or}
use Rattle.std.specs.Option.{unwrap_or}
use Rattle.std.proofs.lemmas.Bool.{false≢true}
use Rattle.outside_io.specs.declared.disks.Disk.{Ghosts}
use Rattle.policy_types.specs.Accounts.{Booking}
use Rattle.policy_types.specs.declared.command.Command.{Command}
use Rattle.policy_types.specs.declared.entry.At.{At}
use Rattle.policy_types.specs.declared.entry.Call.{Call}
use Rattle.policy_types.specs.declared.entry.Call.TheVariants.{Post}
use Rattle.policy_types.specs.declared.entry.Reply.{Reply}
use Rattle.policy_types.specs.declared.entry.Reply.TheVariants.{Accepted, Refused, Faulted, Pinned, PinRefused, Slice, Unpinned, Floor, Blank}
use Rattle.policy_types.specs.declared.entry.Entry.{Entry}
use Rattle.policy_types.specs.declared.watcher.Report.{Report}
use Rattle.policy_machine.specs.History.{Opening, IsDue, IsLegalAfter, commands_after, fault_of, opened_on, accepted_of}
use Rattle.policy_machine.specs.Merge.{FollowsPin, Placed, pin_call, turns_of}
use Rattle.office_state.specs.Images.{AreQuiet, IsLeftBy, IsThere, WasFaulted}
use Rattle.office_state.proofs.Holdings.{HoldsNow, HoldsOnce}
use Rattle.office_state.specs.Journals.{JournalBytes, Opens}
use Rattle.office_state.proofs.KeptSteps.{keeps_none}
use Rattle.shared_office.specs.Offices.{IsOfficeHistory, OfficeOpening}
use Rattle.office_state.specs.States.{MomentRing}
use Rattle.shared_office.specs.Starting.{HasClosed, HasStartedOffice}
use Rattle.watcher_set.specs.declared.watching.Watching.{Ghosts as WatcherGhosts}
use Rattle.turn_lock.specs.Passes.{Holding, PassFacts, callers}
use Rattle.snapshot_value.specs.Growing.{Grows}
use Rattle.program_endings.proofs.ListSteps.{Has, all_has, has_of_contains, has_right, of_all, same_opened}
use Rattle.program_endings.proofs.TurnSteps.{posts, quiet_follow, quiet_pin, quiet_reply, quiet_turns, unposted_reply}
use Rattle.program_endings.proofs.QuietTurns.{ArePostless, none_accepted, all_own, entries_in, same_first, same_rest, postless_entries}

none_met : (opening : Opening) (before history : List Entry) → IsLegalAfter opening before history → ArePostless history
    → filter_map (λ (entry : Entry). fault_of entry.reply) history ≡ []
none_met opening before [] legal quiet = refl
none_met opening before (entry ∷ history) legal quiet =
    ap (λ first. cons_option first (filter_map (λ (e : Entry). fault_of e.reply) history))
    (quiet_reply opening before entry.caller entry.call entry.reply legal.0 quiet.0).0
    ∙ none_met opening (before ++ entry ∷ []) history legal.1 quiet.1

all_quiet : (opening : Opening) (before history : List Entry) → IsLegalAfter opening before history → ArePostless history → AreQuiet history
all_quiet opening before [] legal quiet = tt
all_quiet opening before (entry ∷ history) legal quiet = (
  unposted_reply opening before entry.caller entry.call entry.reply legal.0 quiet.0,
  all_quiet opening (before ++ entry ∷ []) history legal.1 quiet.1,
)

never_faulted : {A : Type 0} (history : List Entry) (held : List Command) (command : Command) → ArePostless history → WasFaulted history held command → A
never_faulted history held command quiet fault =
    let entry : Entry = record { caller = fault.caller; call = Post command; reply = Faulted fault.count } in
    let posted : true ≡ false =
    of_all (λ (e : Entry). posts e.call ≡ false) (fault.before ++ entry ∷ fault.after) entry
    (subst (λ (h : List Entry). ArePostless h) fault.turns quiet) (has_right fault.before (entry ∷ fault.after) entry (inl refl)) in
    absurd (false≢true (sym posted))

nothing_held : (xs ys : List Command) → [] ≡ xs ++ ys → xs ≡ []
nothing_held [] ys none = refl
nothing_held (x ∷ xs) ys none = absurd (cc)

-- turns that post nothing leave the disk as none do
module _ {D : Type 0} (g : Ghosts D) (old new : D) (opening : Opening) (history : List Entry) (legal : IsLegalAfter opening [] history)
    (quiet : ArePostless history) where
  quiet_now : (image : List ℕ) → HoldsNow opening history image → HoldsNow opening [] image
  quiet_now image (inl journal) =
      inl (subst (λ (cs : List Command). JournalBytes image (opening.commands ++ cs)) (none_accepted history quiet) journal)
  quiet_now image (inr pending) = never_faulted history (accepted_of history) pending.0 quiet pending.1

  quiet_there : (held : List Command) (image : List ℕ) → IsThere Opens opening.commands history held image
      → IsThere Opens opening.commands [] held image
  quiet_there held image (inl all) = inl all
  quiet_there held image (inr more) = never_faulted history held more.0 quiet more.1

  quiet_once : (image : List ℕ) → HoldsOnce opening history image → HoldsOnce opening [] image
  quiet_once image once =
      let held : once.0 ≡ [] = nothing_held once.0 once.1 (sym (none_accepted history quiet) ∙ once.2) in
      ([], [], refl, subst (λ (cs : List Command). IsThere Opens opening.commands [] cs image) held (quiet_there once.0 image once.3))

  quiet_left : IsLeftBy g old new opening history → IsLeftBy g old new opening []
  quiet_left left = record {
    honesty = left.honesty;
    opened = left.opened;
    faults = left.faults ∙ ap (λ (ns : List ℕ). unwrap_or (last_or None ns) opening.faults) (none_met opening [] history legal quiet);
    now = λ honest image may. quiet_now image (left.now honest image may);
    since = λ honest image was. elim (left.since honest image was) [ inl before ↦ inl before | inr once ↦ inr (quiet_once image once) ];
    synced = λ honest. let mid = left.synced honest in (mid.0, mid.1, λ image was. quiet_once image (mid.2 image was));
    kept = λ honest. keeps_none g old opening new history (left.kept honest);
    alone = λ none. left.alone (all_quiet opening [] history legal quiet);
  }

first_turn : (seen : List Entry) (pin : Placed) (later : List Placed) → enumerate_from 0 seen ≡ pin ∷ later
    → (pin.0 ≡ 0) × (seen ≡ pin.1 ∷ map (λ (turn : Placed). turn.1) later)
first_turn [] pin later same = absurd (cc)
first_turn (entry ∷ seen) pin later same =
    let first = same_first {A = Placed} (0, entry) pin (enumerate_from 1 seen) later same in
    let rest = same_rest {A = Placed} (0, entry) pin (enumerate_from 1 seen) later same in (
      ap (λ (p : Placed). p.0) (sym first),
      ap (λ (p : Placed). p.1 ∷ seen) first ∙ ap (λ more. pin.1 ∷ more) (sym (entries_in 1 seen) ∙ ap (map (λ (turn : Placed). turn.1)) rest),
    )

module _ {D W : Type 0} (g : Ghosts D) (w : WatcherGhosts W) (old disk : D) (watchers : W) (at : At)
    (first closing : Holding (OfficeOpening D W)) (balances : Booking) (reports : List Report)
    (started : HasStartedOffice g old watchers first) (facts : PassFacts IsOfficeHistory closing)
    {outlet : Option MomentRing} (closed : HasClosed g w closing disk balances reports outlet)
    (pin : Placed) (later : List Placed) (grows : Grows first closing (pin ∷ later)) (dry : List ℕ) (asked : pin.1.call ≡ pin_call at)
    (follows : FollowsPin dry pin.0 pin.1.reply (map (λ (turn : Placed). turn.1.call) later)) where
  abbrev opened : OfficeOpening D W
  opened = record { opening = started.opening; begun = old; held = started.held; watchers = watchers; outlet = started.outlet }

  closing_opened : closing.opening ≡ Some opened
  closing_opened = grows.opening ∙ started.first.opened

  is_history : IsOfficeHistory opened closing.seen
  is_history =
      let lawful = facts.lawful in
      let same : lawful.0 ≡ opened = same_opened lawful.0 opened (sym lawful.1 ∙ closing_opened) in
      subst (λ (o : OfficeOpening D W). IsOfficeHistory o closing.seen) same lawful.2

  all_callers : callers closing ≡ 0 ∷ []
  all_callers =
      let number : closing.caller ≡ 0 = grows.caller ∙ started.first.caller in
      let ended : closing.ended ≡ [] = grows.ended ∙ started.first.ended in
      λ i. number i ∷ map (λ page. page.0) (ended i)

  own : (entry : Entry) → Has closing.seen entry → entry.caller ≡ 0
  own entry has = by (has_of_contains (0 ∷ []) entry.caller
      (subst (λ (ns : List ℕ). Contains ns entry.caller) all_callers (of_all (λ (e : Entry). Contains (callers closing) e.caller) closing.seen entry closed.whole has)))
    where
      by : Has (0 ∷ []) entry.caller → entry.caller ≡ 0
      by (inl same) = sym same
      by (inr never) = absurd never

  lone : (pin.0 ≡ 0) × (closing.seen ≡ pin.1 ∷ map (λ (turn : Placed). turn.1) later)
  lone =
      let all : turns_of closing.seen 0 ≡ enumerate_from 0 closing.seen =
      all_own 0 0 closing.seen (all_has (λ (entry : Entry). entry.caller ≡ 0) closing.seen own) in
      let turns : turns_of closing.seen 0 ≡ pin ∷ later =
      subst (λ n. turns_of closing.seen n ≡ pin ∷ later) started.first.caller
      (grows.turns ∙ ap (λ (es : List Entry). turns_of es first.caller ++ pin ∷ later) started.first.seen) in
      first_turn closing.seen pin later (sym all ∙ turns)

  postless : ArePostless closing.seen
  postless =
      let pins : posts pin.1.call ≡ false = ap posts asked ∙ quiet_pin at in
      let rest = postless_entries later (quiet_turns later
      (quiet_follow dry pin.0 pin.1.reply (map (λ (t : Placed). t.1.call) later) follows)) in
      subst (λ (h : List Entry). ArePostless h) (sym lone.1) (pins, rest)

  -- the pin's reply is due at the office as it was opened
  pub lone_due : IsDue started.opening [] pin.1.caller (pin_call at) pin.1.reply
  lone_due =
      let legal = subst (IsLegalAfter started.opening []) lone.1 is_history.legal.due in
      subst (λ (c : Call). IsDue started.opening [] pin.1.caller c pin.1.reply) asked legal.0

  -- and what is answered is so by the commands of the file
  pub lone_answered : (turn : ℕ) (told : OfficeOpening D W) (Answers : List Command → Type 0) → pin.0 ≡ turn → closing.opening ≡ Some told
      → Answers (commands_after told.opening (take turn closing.seen)) → Answers (commands_after started.opening [])
  lone_answered turn told Answers place opening answers =
      let same : told ≡ opened = same_opened told opened (sym opening ∙ closing_opened) in
      let zeroth : turn ≡ 0 = sym place ∙ lone.0 in
      subst (λ n. Answers (commands_after started.opening (take n closing.seen))) zeroth
      (subst (λ (o : OfficeOpening D W). Answers (commands_after o.opening (take turn closing.seen))) same answers)

  -- the disk is left as no turns leave it
  pub lone_left : IsLeftBy g old disk (opened_on started.opening.commands (g.faults old)) []
  lone_left =
      let same : closed.opening ≡ opened = same_opened closed.opening opened (sym closed.opened ∙ closing_opened) in
      let whole : IsLeftBy g old disk started.opening closing.seen =
      subst (λ (o : OfficeOpening D W). IsLeftBy g o.begun disk o.opening closing.seen) same closed.disk in
      subst (λ (n : ℕ). IsLeftBy g old disk (opened_on started.opening.commands n) []) started.faults
      (quiet_left g old disk started.opening closing.seen is_history.legal.due postless whole)

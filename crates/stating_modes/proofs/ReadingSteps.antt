-- What one more record adds to an account, and what is known once all records were read, or one couldn't be
use Rattle.stating_modes.proofs.Names.{◌≡◌, if◌then◌else◌, ℕ, ◌+◌, ◌<◌, ◌≤◌, ◌==◌, ◌⊎◌, Bool, true, false, List, [], ◌∷◌, ◌++◌, length, take, slice_index_or, refl, ap, ap₂, sym, ◌∙◌, subst, inl, inr, Some, None, Option, Ok, Err, Result, IsOk, append-nil, append_assoc, arith, IfSome, All, AllByRecursion, enumerate_from, filter, Ghosts, Command, Policy, IsValid, id_of, IsAcceptedAfter, judge, kept, policy_of, IsSound, next, IsUnfinished, OpensToBodies, LooksOn, count_of, disk_of, looks_on, StartCause, IsOfTheFile, IsShown, Opens, OpensToNone, TellsFault, same_command, same_commands, shown_opens_to_none, to_bodies, IsStarted, policy_entries, CanBeNext, HasNotRead, HasRead, IsAccount, IsReadFrom, IsStoppedFrom}
use Rattle.std.proofs.lemmas.List.Elements.{All-from_recursion, filter-append}
use Rattle.policy_types.specs.declared.command.Command.TheVariants.{Upgrade}
use Rattle.policy_types.specs.declared.refusal.Refusal.{Refusal}
use Rattle.policy_machine.proofs.BookLemmas.{policy_of-own, policy_of-push_other, policy_of-push_own, policy_of-sound}
use Rattle.policy_machine.proofs.JudgeLemmas.{accepted_next}
use Rattle.record_codec.specs.Spelling.{spelling_of}
use Rattle.posting_journal.specs.Starting.{ShowsCause, TellsCause}
use Rattle.posting_journal.specs.declared.faults.JournalCause.{JournalCause}
use Rattle.posting_journal.specs.declared.faults.JournalCause.TheVariants.{DiskFault as FaultyDisk, NotAJournal as IsNoJournal, BadRecord as IsBadRecord}
use Rattle.posting_journal.specs.declared.journal.Journal.{Journal}
use Rattle.posting_journal.proofs.Unique.{opens_once}
use Rattle.journal_replay.specs.Keeping.{AreKept}
use Rattle.journal_replay.specs.Replays.{IsLookedAt, IsQuiet, IsStoppedAt, Replays, Stops, bodies_of}
use Rattle.journal_replay.proofs.ReplaySteps.{Stops-wider, all_replayed}
use Rattle.journal_replay.specs.declared.replaying.ReplayFault.{ReplayFault}
use Rattle.journal_replay.specs.declared.replaying.ReplayFault.TheVariants as replay
use Rattle.office_state.specs.inside.Replays.{as_cause, as_replay_cause}
use Rattle.office_state.proofs.OpenedSteps.{replay_told}
use Rattle.stating_modes.specs.declared.rereading.Account.{Account}

enumerate_from-push : {X : Type 0} (n : ℕ) (xs : List X) (x : X)
    → enumerate_from n (xs ++ x ∷ []) ≡ enumerate_from n xs ++ (n + length xs, x) ∷ []
enumerate_from-push n [] x = ap (λ k. (k, x) ∷ []) (omega arith)
enumerate_from-push n (first ∷ xs) x =
    ap (λ rest. (n, first) ∷ rest) (enumerate_from-push (n + 1) xs x
    ∙ ap (λ k. enumerate_from (n + 1) xs ++ (k, x) ∷ []) (omega arith))

entries-push : (commands : List Command) (command : Command) (id : ℕ)
    → policy_entries (commands ++ command ∷ []) id
    ≡ policy_entries commands id ++ filter (λ (entry : ℕ × Command). id_of entry.1 == id) ((1 + length commands, command) ∷ [])
entries-push commands command id =
    ap (filter (λ (entry : ℕ × Command). id_of entry.1 == id)) (enumerate_from-push 1 commands command)
    ∙ filter-append (λ (entry : ℕ × Command). id_of entry.1 == id) (enumerate_from 1 commands) ((1 + length commands, command) ∷ [])

all_valid-push : (commands : List Command) (command : Command) → AllByRecursion IsValid commands → IsValid command
    → AllByRecursion IsValid (commands ++ command ∷ [])
all_valid-push [] command valid here = (here, tt)
all_valid-push (first ∷ commands) command valid here = (valid.0, all_valid-push commands command valid.1 here)

-- a command of another policy
pub account_other : (account : Account) (commands : List Command) (command : Command) → IsAccount account commands → IsValid command
    → (id_of command == account.id) ≡ false → IsAccount account (commands ++ command ∷ [])
account_other account commands command holds valid other = record {
  valid = all_valid-push commands command holds.valid valid;
  entries = holds.entries ∙ sym (entries-push commands command account.id
      ∙ ap (λ b. policy_entries commands account.id ++ (if b then (1 + length commands, command) ∷ [] else [])) other
      ∙ append-nil (policy_entries commands account.id));
  policy = holds.policy ∙ sym (policy_of-push_other commands command account.id other);
}

kept_ok : (before : Option Policy) (decision : Result Policy Refusal) (after : Policy) → decision ≡ Ok after → kept before decision ≡ Some after
kept_ok before decision after is = ap (kept before) is

-- a command of its own
pub account_own : (old new : Account) (commands : List Command) (command : Command) (after : Policy) (n : ℕ) → IsAccount old commands → IsValid command
    → length commands ≡ n → (id_of command == old.id) ≡ true → new.id ≡ old.id → new.entries.items ≡ old.entries.items ++ (n + 1, command) ∷ []
    → new.policy ≡ Some after → next old.policy command ≡ Ok after → IsAccount new (commands ++ command ∷ [])
account_own old new commands command after n holds valid each own same entries policy decided = record {
  valid = all_valid-push commands command holds.valid valid;
  entries =
      let place : n + 1 ≡ 1 + length commands = omega arith in
      entries ∙ ap₂ (λ es k. es ++ (k, command) ∷ []) holds.entries place
      ∙ sym (entries-push commands command old.id
      ∙ ap (λ b. policy_entries commands old.id ++ (if b then (1 + length commands, command) ∷ [] else [])) own)
      ∙ ap (policy_entries (commands ++ command ∷ [])) (sym same);
  policy =
      let decision : next (policy_of commands old.id) command ≡ Ok after = ap (λ p. next p command) (sym holds.policy) ∙ decided in
      policy ∙ sym (policy_of-push_own commands command old.id own ∙ kept_ok (policy_of commands old.id) _ after decision)
      ∙ ap (policy_of (commands ++ command ∷ [])) (sym same);
}

-- what the rules make of one of its own is what they make of it after the commands
decided_after : (account : Account) (commands : List Command) (command : Command) (decision : Result Policy Refusal) → IsAccount account commands
    → id_of command ≡ account.id → next account.policy command ≡ decision → next (policy_of commands (id_of command)) command ≡ decision
decided_after account commands command decision holds own decided =
    ap (λ id. next (policy_of commands id) command) own ∙ ap (λ p. next p command) (sym holds.policy) ∙ decided

-- a command that the rules accept can be next
pub can_be_next : (account : Account) (commands : List Command) (command : Command) (after : Policy) → IsAccount account commands
    → id_of command ≡ account.id → next account.policy command ≡ Ok after → CanBeNext commands command
can_be_next account commands command after holds own decided =
    inr (subst (λ (r : Result Policy Refusal). IsOk r) (sym (decided_after account commands command (Ok after) holds own decided)) refl)

-- a command that they refuse can't
pub not_next : (account : Account) (commands : List Command) (command : Command) (refusal : Refusal) → 1 ≤ account.id → IsAccount account commands
    → id_of command ≡ account.id → next account.policy command ≡ Err refusal → CanBeNext commands command → ⊥
not_next account commands command refusal some holds own decided can = by_kind can
  where
    decision : next (policy_of commands (id_of command)) command ≡ Err refusal
    decision = decided_after account commands command (Err refusal) holds own decided

    by_kind : (command ≡ Upgrade) ⊎ IsOk (next (policy_of commands (id_of command)) command) → ⊥
    by_kind (inl upgraded) = omega (arith, some, own, ap id_of upgraded)
    by_kind (inr accepted) =
        let bad : IsOk {T = Policy} {E = Refusal} (Err refusal) = subst (λ (r : Result Policy Refusal). IsOk r) decision accepted in absurd (cc)

-- what is accepted can be next
accepted_can : (before : List Command) (command : Command) → judge before command ≡ None → CanBeNext before command
accepted_can before command accepted = by_kind (accepted_next before command accepted)
  where
    by_kind : (command ≡ Upgrade) ⊎ ((after : Policy) × (next (policy_of before (id_of command)) command ≡ Ok after)) → CanBeNext before command
    by_kind (inl upgraded) = inl upgraded
    by_kind (inr made) = inr (subst (λ (r : Result Policy Refusal). IsOk r) (sym made.1) refl)

-- the account of no commands
pub account_none : (account : Account) → account.entries.items ≡ [] → account.policy ≡ None → IsAccount account []
account_none account entries policy = record { valid = tt; entries = entries; policy = policy }

module _ {D : Type 0} (g : Ghosts D) (journal : Journal D g) (now : D) where
  -- with every record replayed the account is that of the bodies' commands
  pub all_read : (account : Account) (id : ℕ) → account.id ≡ id → IsLookedAt g (disk_of journal) now → IsQuiet journal now
      → Replays (λ commands. IsAccount account commands) journal now (count_of journal) [] → IsReadFrom journal now account id
  all_read account id named looked quiet all = record {
    named = named;
    looked = looked;
    commands = all.later;
    holds = all.kept;
    quiet = quiet;
    bodies = λ bodies last honest stands.
        all_replayed (λ commands. IsAccount account commands) journal now [] all bodies last honest stands refl;
  }

  -- and if a command isn't valid, those before it are
  pub reading_stopped : (fault : ReplayFault)
      → Stops (AreKept (λ (account : Account) commands. IsAccount account commands)) CanBeNext journal now [] fault
      → Stops (AllByRecursion IsValid) CanBeNext journal now [] fault
  reading_stopped fault =
      Stops-wider (AreKept (λ (account : Account) commands. IsAccount account commands)) (AllByRecursion IsValid) CanBeNext
      (λ commands kept. kept.1.valid) journal now [] fault

-- the body spells no command that can be next
abbrev CanSpellNoNext : List ℕ → List Command → Type 0
CanSpellNoNext body commands = (command : Command) → body ≡ spelling_of command → IsValid command → CanBeNext commands command → ⊥

-- the body after those of the commands before it spells one that the rules accept
never_stopped : (before all commands : List Command) → AllByRecursion IsValid all → IsAcceptedAfter before all
    → length commands < length (bodies_of all) → AllByRecursion IsValid commands
    → take (length commands) (bodies_of all) ≡ bodies_of commands
    → CanSpellNoNext (slice_index_or (bodies_of all) (length commands) []) (before ++ commands) → ⊥
never_stopped before [] commands valid accepted within valid_too front none = omega (arith, within)
never_stopped before (command ∷ all) [] valid accepted within valid_too front none =
    none command refl valid.0 (subst (λ (cs : List Command). CanBeNext cs command) (sym (append-nil before)) (accepted_can before command accepted.0))
never_stopped before (command ∷ all) (first ∷ commands) valid accepted within valid_too front none =
    let head : spelling_of command ≡ spelling_of first = cc in
    let rest : take (length commands) (bodies_of all) ≡ bodies_of commands = cc in
    let one : command ≡ first = same_command command first valid.0 valid_too.0 head in
    never_stopped (before ++ command ∷ []) all commands valid.1 accepted.1 (omega (arith, within)) valid_too.1 rest
    (subst (CanSpellNoNext (slice_index_or (bodies_of all) (length commands) [])) (ap (λ c. before ++ c ∷ commands) (sym one) ∙ sym (append_assoc before (command ∷ []) commands)) none)

-- a file whose bodies can't be read opens to no commands
stopped_none : (bytes : List ℕ) (bodies : List (List ℕ)) (n : ℕ) → OpensToBodies bytes bodies
    → IsStoppedAt (AllByRecursion IsValid) CanBeNext n bodies → OpensToNone bytes
stopped_none bytes bodies n opened at commands opens =
    let same : bodies ≡ bodies_of commands = opens_once bytes bodies (bodies_of commands) opened (to_bodies bytes commands opens) in
    by opens (subst (IsStoppedAt (AllByRecursion IsValid) CanBeNext n) same at)
  where
    by : Opens bytes commands → IsStoppedAt (AllByRecursion IsValid) CanBeNext n (bodies_of commands) → ⊥
    by (inl journal) at =
        never_stopped [] commands at.commands journal.valid journal.accepted (omega (arith, at.within, at.counted)) at.kept
        (ap (λ k. take k (bodies_of commands)) at.counted ∙ at.front)
        (subst (λ k. CanSpellNoNext (slice_index_or (bodies_of commands) k []) at.commands) (sym at.counted) at.none)
    by (inr creation) at =
        let none : length (bodies_of commands) ≡ 0 = ap (λ (cs : List Command). length (bodies_of cs)) creation.0 in
        omega (arith, at.within)

valid_in : (bytes : List ℕ) (commands : List Command) → Opens bytes commands → AllByRecursion IsValid commands
valid_in bytes commands (inl journal) = journal.valid
valid_in bytes commands (inr creation) = subst (AllByRecursion IsValid) (sym creation.0) tt

module _ {D : Type 0} (g : Ghosts D) (old : D) (journal : Journal D g) (started : IsStarted old journal) where
  honest_before : (new : D) → IsLookedAt g (disk_of journal) new → g.honest new → g.honest old
  honest_before new looked honest = started.honesty (looked.honesty honest)

  looked_only : (new : D) → IsLookedAt g (disk_of journal) new → g.honest new → ¬ IsUnfinished (g.reads old) → LooksOn g old new
  looked_only new looked honest finished =
      looks_on g old (disk_of journal) new ((started.opens (looked.honesty honest)).unwritten finished) (looked.looks honest)

  pub has_read : (new : D) (account : Account) (id : ℕ) → IsReadFrom journal new account id → HasRead g old new account id
  has_read new account id read = record {
    named = read.named;
    commands = read.commands;
    holds = read.holds;
    opened = λ honest others opens.
        let opened = started.opened (read.looked.honesty honest) in
        let same : opened.bodies ≡ bodies_of read.commands = read.bodies opened.bodies [] honest opened.stands in
        let other : opened.bodies ≡ bodies_of others = opens_once (g.reads old) opened.bodies (bodies_of others) opened.opened (to_bodies (g.reads old) others opens) in
        same_commands read.commands others read.holds.valid (valid_in (g.reads old) others opens) (sym same ∙ other);
    honesty = honest_before new read.looked;
    quiet = read.quiet ∙ started.quiet;
    unwritten = looked_only new read.looked;
  }

  opens_to_none : (new : D) → IsLookedAt g (disk_of journal) new → (fault : ReplayFault)
      → Stops (AllByRecursion IsValid) CanBeNext journal new [] fault → g.honest new
      → IsOfTheFile (as_replay_cause fault) → OpensToNone (g.reads old)
  opens_to_none new looked (replay.DiskFault count) stops honest of = absurd of
  opens_to_none new looked (replay.NoMemory lack) stops honest of = absurd of
  opens_to_none new looked (replay.BadRecord n) stops honest of =
      let opened = started.opened (looked.honesty honest) in
      stopped_none (g.reads old) opened.bodies n opened.opened (stops.1 opened.bodies [] honest opened.stands refl)

  pub has_stopped : (new : D) (cause : StartCause) → IsStoppedFrom journal new cause → HasNotRead g old new cause
  has_stopped new cause from = record {
    told = subst (TellsFault (g.faults old) (g.faults new)) (sym from.same) (replay_told g old journal started new from.fault from.told);
    shown = λ honest of. opens_to_none new from.looked from.fault from.stops honest (subst IsOfTheFile from.same of);
    honesty = honest_before new from.looked;
    unwritten = looked_only new from.looked;
  }

-- a journal that wasn't started
pub has_not_started : {D : Type 0} (g : Ghosts D) (old new : D) (cause : JournalCause) → TellsCause (g.faults old) (g.faults new) cause
    → (g.honest new → g.honest old) → (g.honest new → ShowsCause (g.reads old) cause)
    → (g.honest new → ¬ IsUnfinished (g.reads old) → LooksOn g old new) → HasNotRead g old new (as_cause cause)
has_not_started g old new cause told honesty shown unwritten = record {
  told = fault cause told;
  shown = λ honest of. shown_opens_to_none (g.reads old) (as_cause cause) of (shows cause (shown honest));
  honesty = honesty;
  unwritten = unwritten;
}
  where
    fault : (cause : JournalCause) → TellsCause (g.faults old) (g.faults new) cause → TellsFault (g.faults old) (g.faults new) (as_cause cause)
    fault (FaultyDisk count) told = told
    fault IsNoJournal told = told
    fault (IsBadRecord n) told = told

    shows : (cause : JournalCause) → ShowsCause (g.reads old) cause → IsShown (g.reads old) (as_cause cause)
    shows (FaultyDisk count) shown = tt
    shows IsNoJournal shown = shown
    shows (IsBadRecord n) shown = inl shown

-- what is written of an account is valid
entry_valid : (own : Bool) (n : ℕ) (command : Command) (rest : List (ℕ × Command)) → IsValid command
    → AllByRecursion (λ (entry : ℕ × Command). IsValid entry.1) rest
    → AllByRecursion (λ (entry : ℕ × Command). IsValid entry.1) (if own then (n, command) ∷ rest else rest)
entry_valid true n command rest here valid = (here, valid)
entry_valid false n command rest here valid = valid

entries_valid : (n : ℕ) (commands : List Command) (id : ℕ) → AllByRecursion IsValid commands
    → AllByRecursion (λ (entry : ℕ × Command). IsValid entry.1)
    (filter (λ (entry : ℕ × Command). id_of entry.1 == id) (enumerate_from n commands))
entries_valid n [] id valid = tt
entries_valid n (command ∷ commands) id valid =
    entry_valid (id_of command == id) n command _ valid.0 (entries_valid (n + 1) commands id valid.1)

pub account_valid : (account : Account) (commands : List Command) → IsAccount account commands
    → All (λ (entry : ℕ × Command). IsValid entry.1) account.entries.items
account_valid account commands holds =
    subst (All (λ (entry : ℕ × Command). IsValid entry.1)) (sym holds.entries)
    (All-from_recursion (λ (entry : ℕ × Command). IsValid entry.1) (policy_entries commands account.id) (entries_valid 1 commands account.id holds.valid))

pub account_sound : (account : Account) (commands : List Command) → IsAccount account commands → IfSome account.policy IsSound
account_sound account commands holds =
    subst (λ (p : Option Policy). IfSome p IsSound) (sym holds.policy) (policy_of-sound commands account.id holds.valid)

pub account_own_policy : (account : Account) (commands : List Command) → IsAccount account commands → IfSome account.policy (λ p. p.id ≡ account.id)
account_own_policy account commands holds =
    subst (λ (p : Option Policy). IfSome p (λ q. q.id ≡ account.id)) (sym holds.policy) (policy_of-own commands account.id)

-- A file opens to one list of commands at most, and one that is refused for what its bytes show opens to none, and is
-- refused for one cause.
use Rattle.office_state.proofs.Names.{◌≡◌, inl, inr, ℕ, ◌<◌, ◌≤◌, List, [], ◌∷◌, ◌++◌, length, refl, ap, sym, subst, append-nil, length-append, arith, length-map, cases_lt, AllByRecursion, Command, IsValid, IsAccepted, accepted_at, spelling_of, one_command, IsJournal, IsForeign, IsBadAt, OpensToBodies, bodies_of, StartCause, DiskFault, NotAJournal, BadRecord, NoMemory, Opens, OpensToNone, IsUnfollowed, IsOfTheFile, IsShown}
use Rattle.posting_journal.proofs.Unique.{opens_once, one_journal, journal_finished, foreign_never, bad_never}
use Rattle.posting_journal.proofs.Unique.{one_cause, one_place}

-- no body spells two commands that are recorded
pub same_command : (command other : Command) → IsValid command → IsValid other
    → spelling_of command ≡ spelling_of other → command ≡ other
same_command command other here there same =
    one_command (spelling_of command) command other
    (record { valid = here; spelled = refl }) (record { valid = there; spelled = same })

pub same_commands : (commands others : List Command) → AllByRecursion IsValid commands
    → AllByRecursion IsValid others → bodies_of commands ≡ bodies_of others → commands ≡ others
same_commands [] [] here there same = refl
same_commands [] (other ∷ others) here there same = cc
same_commands (command ∷ commands) [] here there same = cc
same_commands (command ∷ commands) (other ∷ others) here there same =
    let first : spelling_of command ≡ spelling_of other = cc in
    let later : bodies_of commands ≡ bodies_of others = cc in
    let one : command ≡ other = same_command command other here.0 there.0 first in
    let rest : commands ≡ others = same_commands commands others here.1 there.1 later in
    cc

-- the file opens to the bodies of the commands
pub to_bodies : (bytes : List ℕ) (commands : List Command) → Opens bytes commands
    → OpensToBodies bytes (bodies_of commands)
to_bodies bytes commands (inl journal) = inl journal.records
to_bodies bytes commands (inr creation) = inr (ap bodies_of creation.0, creation.1)

recordable_in : (bytes : List ℕ) (commands : List Command) → Opens bytes commands → AllByRecursion IsValid commands
recordable_in bytes commands (inl journal) = journal.valid
recordable_in bytes commands (inr creation) = subst (AllByRecursion IsValid) (sym creation.0) tt

pub opens_to_one : (bytes : List ℕ) (commands others : List Command) → Opens bytes commands → Opens bytes others
    → commands ≡ others
opens_to_one bytes commands others one other =
    let same : bodies_of commands ≡ bodies_of others =
    opens_once bytes (bodies_of commands) (bodies_of others)
    (to_bodies bytes commands one) (to_bodies bytes others other) in
    same_commands commands others (recordable_in bytes commands one) (recordable_in bytes others other) same

-- the commands of a longer list: first these, then one that the next body spells
record Continues (commands all : List Command) (body : List ℕ) : Type 0 where
  command : Command
  others : List Command
  parts : all ≡ commands ++ command ∷ others
  spelled : body ≡ spelling_of command
  valid : IsValid command

continues : (commands all : List Command) (body : List ℕ) (rest more : List (List ℕ))
    → AllByRecursion IsValid commands → AllByRecursion IsValid all → length commands < length all
    → bodies_of all ++ more ≡ bodies_of commands ++ body ∷ rest → Continues commands all body
continues [] [] body rest more here there longer same =
    let none : ⊥ = omega (arith, longer) in
    absurd none
continues [] (command ∷ others) body rest more here there longer same =
    record { command = command; others = others; parts = refl; spelled = cc; valid = there.0 }
continues (first ∷ commands) [] body rest more here there longer same =
    let none : ⊥ = omega (arith, longer) in
    absurd none
continues (first ∷ commands) (other ∷ all) body rest more here there longer same =
    let spelled : spelling_of first ≡ spelling_of other = cc in
    let later : bodies_of all ++ more ≡ bodies_of commands ++ body ∷ rest = cc in
    let one : first ≡ other = same_command first other here.0 there.0 spelled in
    let still : length commands < length all = omega (arith, longer) in
    let found = continues commands all body rest more here.1 there.1 still later in
    let later_parts : all ≡ commands ++ found.command ∷ found.others = found.parts in
    record {
      command = found.command;
      others = found.others;
      parts = cc;
      spelled = found.spelled;
      valid = found.valid;
    }

-- accepted commands whose bodies the file begins with are no more than those before the record that can't follow
not_longer : (bytes : List ℕ) (n : ℕ) → (at : IsUnfollowed bytes n) → (all : List Command) (more : List (List ℕ))
    → AllByRecursion IsValid all → IsAccepted all → IsJournal bytes (bodies_of all ++ more)
    → length all ≤ n
not_longer bytes n at all more valid accepted records = elim (cases_lt n (length all)) [
  | inr at_most ↦ at_most
  | inl longer ↦
      let same : bodies_of all ++ more ≡ bodies_of at.commands ++ at.body ∷ at.rest =
      one_journal bytes (bodies_of all ++ more) (bodies_of at.commands ++ at.body ∷ at.rest) records at.records in
      let shorter : length at.commands < length all = omega (arith, longer, at.counted) in
      let found = continues at.commands all at.body at.rest more at.valid valid shorter same in
      let parts : IsAccepted (at.commands ++ found.command ∷ found.others) =
      subst IsAccepted found.parts accepted in
      absurd (at.none found.command found.spelled found.valid (accepted_at [] at.commands found.others found.command parts))
]

unfollowed_never : (bytes : List ℕ) (n : ℕ) → IsUnfollowed bytes n → OpensToNone bytes
unfollowed_never bytes n at all (inr creation) =
    journal_finished bytes (bodies_of at.commands ++ at.body ∷ at.rest) at.records creation.1
unfollowed_never bytes n at all (inl journal) =
    let same : bodies_of all ≡ bodies_of at.commands ++ at.body ∷ at.rest =
    one_journal bytes (bodies_of all) (bodies_of at.commands ++ at.body ∷ at.rest) journal.records at.records in
    let records : IsJournal bytes (bodies_of all ++ []) = rw append-nil journal.records in
    let at_most : length all ≤ n = not_longer bytes n at all [] journal.valid journal.accepted records in
    omega (
      arith,
      at_most,
      at.counted,
      ap length same,
      length-append (bodies_of at.commands) (at.body ∷ at.rest),
      length-map all spelling_of,
      length-map at.commands spelling_of,
    )

-- a file that is refused for what its bytes show opens to no commands
pub shown_opens_to_none : (bytes : List ℕ) (cause : StartCause) → IsOfTheFile cause → IsShown bytes cause → OpensToNone bytes
shown_opens_to_none bytes NotAJournal file shown = λ (commands : List Command) (opens : Opens bytes commands).
    foreign_never bytes (bodies_of commands) shown (to_bodies bytes commands opens)
shown_opens_to_none bytes (BadRecord n) file (inl bad) = λ (commands : List Command) (opens : Opens bytes commands).
    bad_never bytes n (bodies_of commands) bad (to_bodies bytes commands opens)
shown_opens_to_none bytes (BadRecord n) file (inr unfollowed) = unfollowed_never bytes n unfollowed
shown_opens_to_none bytes (DiskFault count) file shown = absurd file
shown_opens_to_none bytes (NoMemory lack) file shown = absurd file

-- two records of one file that can't follow those before them are one
unfollowed_once : (bytes : List ℕ) (n m : ℕ) → IsUnfollowed bytes n → IsUnfollowed bytes m → n ≡ m
unfollowed_once bytes n m one other =
    let first : length other.commands ≤ n =
    not_longer bytes n one other.commands (other.body ∷ other.rest) other.valid other.accepted other.records in
    let second : length one.commands ≤ m =
    not_longer bytes m other one.commands (one.body ∷ one.rest) one.valid one.accepted one.records in
    omega (arith, first, second, one.counted, other.counted)

-- a bad file is no journal, and one with a record that can't follow is
bad_or_unfollowed : (bytes : List ℕ) (n m : ℕ) → IsBadAt bytes n → IsUnfollowed bytes m → ⊥
bad_or_unfollowed bytes n m bad at =
    bad_never bytes n (bodies_of at.commands ++ at.body ∷ at.rest) bad (inl at.records)

foreign_or_shown : (bytes : List ℕ) (n : ℕ) → IsForeign bytes → IsShown bytes (BadRecord n) → ⊥
foreign_or_shown bytes n foreign (inl bad) = one_cause bytes n foreign bad
foreign_or_shown bytes n foreign (inr at) =
    foreign_never bytes (bodies_of at.commands ++ at.body ∷ at.rest) foreign (inl at.records)

one_record : (bytes : List ℕ) (n m : ℕ) → IsShown bytes (BadRecord n) → IsShown bytes (BadRecord m) → n ≡ m
one_record bytes n m (inl one) (inl other) = one_place bytes n m one other
one_record bytes n m (inl one) (inr other) = absurd (bad_or_unfollowed bytes n m one other)
one_record bytes n m (inr one) (inl other) = absurd (bad_or_unfollowed bytes m n other one)
one_record bytes n m (inr one) (inr other) = unfollowed_once bytes n m one other

-- a file is refused for one cause at most
pub shown_once : (bytes : List ℕ) (cause other : StartCause) → IsOfTheFile cause → IsOfTheFile other → IsShown bytes cause
    → IsShown bytes other → cause ≡ other
shown_once bytes (DiskFault count) other file also shown too = absurd file
shown_once bytes (NoMemory lack) other file also shown too = absurd file
shown_once bytes cause (DiskFault count) file also shown too = absurd also
shown_once bytes cause (NoMemory lack) file also shown too = absurd also
shown_once bytes NotAJournal NotAJournal file also shown too = refl
shown_once bytes NotAJournal (BadRecord n) file also shown too = absurd (foreign_or_shown bytes n shown too)
shown_once bytes (BadRecord n) NotAJournal file also shown too = absurd (foreign_or_shown bytes n too shown)
shown_once bytes (BadRecord n) (BadRecord m) file also shown too =
    ap (λ k. BadRecord k) (one_record bytes n m shown too)

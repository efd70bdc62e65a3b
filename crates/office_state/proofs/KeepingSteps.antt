-- What the books keep of the accepted commands, and what one more of them does to it
use Rattle.office_state.proofs.Names.{◌≡◌, ℕ, ◌+◌, ◌*◌, ◌-◌, ◌^◌, ◌≤◌, ◌<◌, List, [], ◌∷◌, ◌++◌, length, refl, ap, sym, ◌∙◌, subst, filter_map, Ok, None, false, length-append, arith, length-drop, AllByRecursion, Command, Upgrade, Policy, IsValid, id_of, is_upgrade, next, book, policy_of, judge, upgrade_of, IsAccepted-push, upgrade_from-other, sets_of, Setting, keys_of, own, until, newest_of, versions_from, until_all, Books, KeepsFew, commands_in, floor_in, kept_in, policies_in}
use Rattle.std.proofs.Math.Seq.{take-length}
use Rattle.indexmap.specs.IndexMap.{keys}
use Rattle.policy_types.specs.Limits.{most_commands}
use Rattle.policy_types.specs.Accounts.{AreWithin, added, booking_of}
use Rattle.money_ledgers.specs.Balances.{HasRoom, balances}
use Rattle.money_ledgers.specs.declared.ledger.Ledger.{Ledger}
use Rattle.policy_machine.specs.Accounts.{ledger_of}
use Rattle.policy_machine.proofs.LedgerLemmas.{AreWithin-ledger, AreWithin-wider, ledger_of-push, ledger_of-upgrade}
use Rattle.office_state.proofs.BookValues.{key_count, keys_of-sets_of}
use Rattle.office_state.proofs.PolicyValues.{newest_of-sets_of}
use Rattle.office_state.proofs.SetSteps.{few_after, sets_of-accepted, sets_of-rise, sets_of-upgrade}
use Rattle.versioned_book.specs.Books.{IsBookOf, IsSomeBook, kept_of, versions_in}
use Rattle.versioned_book.specs.declared.book.VersionedBook.{VersionedBook}
use Rattle.versioned_book.proofs.BookSteps.{versions_in-book}
use Rattle.versioned_book.proofs.KeptFew.{kept_few}
use Rattle.versioned_book.proofs.VersionSteps.{newest_of-trimmed}
use Rattle.office_state.specs.inside.Keeping.{Keeps}

-- one more element that has P
pub all-more : {X : Type 0} (P : X → Type 0) (xs : List X) (x : X) → AllByRecursion P xs → P x → AllByRecursion P (xs ++ x ∷ [])
all-more P [] x all here = (here, tt)
all-more P (first ∷ xs) x all here = (all.0, all-more P xs x all.1 here)

-- the books of no command
pub keeps_nothing : (versions : VersionedBook Policy) (ledger : Ledger) → IsBookOf versions [] → versions.last ≡ 0
    → balances ledger ≡ ledger_of [] → Keeps versions 0 0 ledger []
keeps_nothing versions ledger set last booked = record {
  valid = tt;
  accepted = tt;
  few = omega arith;
  counted = refl;
  upgraded = refl;
  set = set;
  last = last;
  booked = booked;
}

module _ (old new : VersionedBook Policy) (count upgrade : ℕ) (before after : Ledger) (commands : List Command) (command : Command) (policy : Policy) where
  abbrev setting : ℕ → Setting Policy
  setting n = record { key = id_of command; position = n + 1; value = policy }

  -- the books keep one more command
  pub keeps_more : IsValid command → length commands < most_commands → Keeps old count upgrade before commands
      → next (policy_of commands (id_of command)) command ≡ Ok policy → judge commands command ≡ None → is_upgrade command ≡ false
      → ((sets : List (Setting Policy)) → IsBookOf old sets → IsBookOf new (sets ++ setting count ∷ []))
      → new.last ≡ count + 1 → balances after ≡ added (balances before) (booking_of command policy)
      → Keeps new (count + 1) upgrade after (commands ++ command ∷ [])
  keeps_more valid fewer keeps decided judged named more last posted =
      let many : count + 1 ≡ length (commands ++ command ∷ []) =
      ap (λ n. n + 1) keeps.counted ∙ sym (length-append commands (command ∷ [])) in
      let sets : sets_of commands ++ setting count ∷ [] ≡ sets_of (commands ++ command ∷ []) =
      ap (λ n. sets_of commands ++ setting n ∷ []) keeps.counted ∙ sym (sets_of-accepted commands command policy decided) in
      record {
        valid = all-more IsValid commands command keeps.valid valid;
        accepted = IsAccepted-push commands command keeps.accepted judged;
        few = omega (arith, fewer, length-append commands (command ∷ []));
        counted = many;
        upgraded = keeps.upgraded ∙ sym (upgrade_from-other 1 commands command named);
        set = subst (IsBookOf new) sets (more (sets_of commands) keeps.set);
        last = last ∙ many;
        booked = posted ∙ ap (λ balance. added balance (booking_of command policy)) keeps.booked
            ∙ sym (ledger_of-push commands command policy decided);
      }

keeps_upgraded : (old new : VersionedBook Policy) (count upgrade place : ℕ) (ledger : Ledger) (commands : List Command)
    → length commands < most_commands → Keeps old count upgrade ledger commands → judge commands Upgrade ≡ None
    → ((before : List Command) → upgrade ≡ upgrade_of before → count ≡ length before → place ≡ upgrade_of (before ++ Upgrade ∷ []))
    → ((sets : List (Setting Policy)) → IsBookOf old sets → IsBookOf new sets) → new.last ≡ count + 1
    → Keeps new (count + 1) place ledger (commands ++ Upgrade ∷ [])
keeps_upgraded old new count upgrade place ledger commands fewer keeps judged placed same last =
    let many : count + 1 ≡ length (commands ++ Upgrade ∷ []) =
    ap (λ n. n + 1) keeps.counted ∙ sym (length-append commands (Upgrade ∷ [])) in
    record {
      valid = all-more IsValid commands Upgrade keeps.valid tt;
      accepted = IsAccepted-push commands Upgrade keeps.accepted judged;
      few = omega (arith, fewer, length-append commands (Upgrade ∷ []));
      counted = many;
      upgraded = placed commands keeps.upgraded keeps.counted;
      set = subst (IsBookOf new) (sym (sets_of-upgrade commands)) (same (sets_of commands) keeps.set);
      last = last ∙ many;
      booked = keeps.booked ∙ sym (ledger_of-upgrade commands);
    }

-- an upgrade more
pub keeps_upgrade : (old new : VersionedBook Policy) (count upgrade place : ℕ) (ledger : Ledger) (commands : List Command) (command : Command)
    → command ≡ Upgrade → length commands < most_commands → Keeps old count upgrade ledger commands → judge commands command ≡ None
    → ((before : List Command) → upgrade ≡ upgrade_of before → count ≡ length before → place ≡ upgrade_of (before ++ command ∷ []))
    → ((sets : List (Setting Policy)) → IsBookOf old sets → IsBookOf new sets) → new.last ≡ count + 1
    → Keeps new (count + 1) place ledger (commands ++ command ∷ [])
keeps_upgrade old new count upgrade place ledger commands command is fewer keeps judged placed same last =
    let placed' : (before : List Command) → upgrade ≡ upgrade_of before → count ≡ length before → place ≡ upgrade_of (before ++ Upgrade ∷ []) =
    λ before up many. placed before up many ∙ ap (λ c. upgrade_of (before ++ c ∷ [])) is in
    subst (λ c. Keeps new (count + 1) place ledger (commands ++ c ∷ [])) (sym is)
    (keeps_upgraded old new count upgrade place ledger commands fewer keeps (subst (λ c. judge commands c ≡ None) is judged) placed' same last)

-- other versions and another ledger of the same commands
pub keeps_still : (old new : VersionedBook Policy) (count upgrade : ℕ) (ledger : Ledger) (commands : List Command) → Keeps old count upgrade ledger commands
    → ((sets : List (Setting Policy)) → IsBookOf old sets → IsBookOf new sets) → new.last ≡ old.last → Keeps new count upgrade ledger commands
keeps_still old new count upgrade ledger commands keeps same last = record {
  valid = keeps.valid;
  accepted = keeps.accepted;
  few = keeps.few;
  counted = keeps.counted;
  upgraded = keeps.upgraded;
  set = same (sets_of commands) keeps.set;
  last = last ∙ keeps.last;
  booked = keeps.booked;
}

module _ (versions : VersionedBook Policy) (count upgrade : ℕ) (ledger : Ledger) (commands : List Command) (keeps : Keeps versions count upgrade ledger commands) where
  -- some settings make them
  pub some_book : IsSomeBook versions
  some_book = (sets_of commands, keeps.set)

  -- the newest version of a number is its policy
  pub newest_is : (id : ℕ) → newest_of (own id (sets_of commands)) ≡ policy_of commands id
  newest_is id = newest_of-sets_of commands id

  newest_in : (id : ℕ) → newest_of (versions_in versions id) ≡ policy_of commands id
  newest_in id =
      ap newest_of (versions_in-book versions (sets_of commands) id keeps.set)
      ∙ newest_of-trimmed versions.floor (own id (sets_of commands)) ∙ newest_of-sets_of commands id

  -- the newest versions are the book, in order of issue
  pub newest_book : filter_map (λ (id : ℕ). newest_of (versions_in versions id)) (keys versions.chains) ≡ book commands
  newest_book =
      (λ i. filter_map (λ (id : ℕ). newest_in id i) (keys versions.chains))
      ∙ ap (filter_map (policy_of commands)) (keeps.set.order ∙ keys_of-sets_of commands keeps.accepted)

  -- the versions of a number are those that its commands made and some position from the floor on needs
  pub versions_are : (id : ℕ) → versions_in versions id ≡ versions_from versions.floor (own id (sets_of commands))
  versions_are id = versions_in-book versions (sets_of commands) id keeps.set

  -- there are few of them
  pub few_kept : KeepsFew (kept_of versions) versions.floor commands
  few_kept =
      let at_most = kept_few versions (sets_of commands) keeps.set in
      let all : length (keys_of (until (length commands) (sets_of commands))) ≡ length (book commands) =
      key_count commands (length commands) keeps.accepted ∙ ap (λ cs. length (book cs)) (take-length commands) in
      let whole : until (length commands) (sets_of commands) ≡ sets_of commands =
      until_all (length commands) 0 (sets_of commands) (length commands) (sets_of-rise commands) (omega arith) in
      omega (arith, at_most, all, ap (λ sets. length (keys_of sets)) whole, few_after commands versions.floor, length-drop versions.floor commands)

  -- the ledger has room for one more booking
  pub has_room : HasRoom ledger
  has_room =
      let few : 40000000000 * length commands ≤ 2 ^ 63 - 1 - 40000000000 = omega (arith, keeps.few) in
      subst (AreWithin (2 ^ 63 - 1 - 40000000000)) (sym keeps.booked)
      (AreWithin-wider (40000000000 * length commands) (2 ^ 63 - 1 - 40000000000) (ledger_of commands) few (AreWithin-ledger commands keeps.valid))

-- what is promised of books that stand for the commands, from this floor on
pub record Promised (books : Books) (commands : List Command) (floor : ℕ) : Type 0 where
  pub count : books.count ≡ length commands
  pub versions : (id : ℕ) → versions_in books.versions id ≡ versions_from floor (own id (sets_of commands))
  pub few : KeepsFew (kept_in books) floor commands
  pub policies : policies_in books ≡ book commands
  pub ledger : balances books.ledger ≡ ledger_of commands

own_promises : (books : Books) → Promised books (commands_in books) (floor_in books)
own_promises books = record {
  count = books.kept.counted;
  versions = versions_are books.versions books.count books.upgrade books.ledger (commands_in books) books.kept;
  few = few_kept books.versions books.count books.upgrade books.ledger (commands_in books) books.kept;
  policies = newest_book books.versions books.count books.upgrade books.ledger (commands_in books) books.kept;
  ledger = books.kept.booked;
}

pub promised : (books : Books) (commands : List Command) (floor : ℕ) → commands_in books ≡ commands → floor_in books ≡ floor
    → Promised books commands floor
promised books commands floor kept floored =
    subst (λ cs. Promised books cs floor) kept (subst (λ f. Promised books (commands_in books) f) floored (own_promises books))

-- the floor is no later than the last command
pub floor_within : (books : Books) → floor_in books ≤ books.count
floor_within books =
    let kept = books.kept in
    let set = kept.set in
    omega (arith, set.floor, kept.last, kept.counted)

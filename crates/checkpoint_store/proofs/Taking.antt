-- The books by number after one more command.
use Rattle.checkpoint_store.proofs.Names.{◌≡◌, nat_eq, ℕ, ◌+◌, ◌*◌, ◌<◌, ◌^◌, ◌-◌, Bool, true, false, cond, List, [], ◌∷◌, ◌++◌, length, refl, sym, ap, subst, ◌∙◌, arith, length-append, Option, None, Some, Result, Ok, Err, IfErr, IfOk, IfSome, OnOk, MatchResult, AllByRecursion, IsDistinct, lookup, eqb-true, insert_entry, HasRoom, balances, IsAccepted, judge, judged, judged_after, policy_of, refusal_in, upgrade_of, IsSound, next, AreWithin, added, booking_of, IsValid, id_of, is_upgrade, Command, Policy, NumberedBooks, AreKeyed, Entries, numbered_policies, AreBooksOf, AreSoundBooks, HasSetPolicy}
use Rattle.memory_requests.specs.Evidence.{a_refusal}
use Rattle.policy_machine.proofs.AcceptedLemmas.{next-own}
use Rattle.policy_machine.proofs.BookLemmas.{IsAccepted-push, book-upgrade}
use Rattle.policy_machine.proofs.JudgeLemmas.{accepted_upgrade, judged_none, judged_some, next-no_upgrade, upgrade_from-first, upgrade_from-other}
use Rattle.policy_machine.proofs.LedgerLemmas.{AreWithin-wider, ledger_of-push, ledger_of-upgrade, within_added}
use Rattle.policy_types.specs.Limits.{most_commands}
use Rattle.policy_types.specs.declared.command.Command.TheVariants.{Upgrade}
use Rattle.policy_types.specs.declared.refusal.Refusal.{Refusal}
use Rattle.journal_replay.specs.Keeping.{IsUnkept}
use Rattle.journal_replay.specs.declared.keeper.Unkept.{Unkept}
use Rattle.journal_replay.specs.declared.keeper.Unkept.TheVariants.{NoMemory}
use Rattle.checkpoint_store.proofs.BookEntries.{book_lookup, book_more, insert_few, insert_keyed, insert_sound, keyed_ids}

pub look_own : (k : ℕ) (es : Entries) → AreKeyed es → IfSome (lookup (nat_eq k) es) (λ (p : Policy). p.id ≡ k)
look_own k [] keyed = tt
look_own k (e ∷ es) keyed = by_test (nat_eq k e.0) refl (look_own k es keyed.1)
  where
    by_test : (b : Bool) → nat_eq k e.0 ≡ b → IfSome (lookup (nat_eq k) es) (λ (p : Policy). p.id ≡ k) → IfSome (cond b (Some e.1) (lookup (nat_eq k) es)) (λ (p : Policy). p.id ≡ k)
    by_test true same later = sym keyed.0 ∙ sym (eqb-true k e.0 same)
    by_test false other later = later

pub look_sound : (k : ℕ) (es : Entries) → AllByRecursion IsSound (numbered_policies es) → IfSome (lookup (nat_eq k) es) IsSound
look_sound k [] sound = tt
look_sound k (e ∷ es) sound = by_test (nat_eq k e.0) (look_sound k es sound.1)
  where
    by_test : (b : Bool) → IfSome (lookup (nat_eq k) es) IsSound → IfSome (cond b (Some e.1) (lookup (nat_eq k) es)) IsSound
    by_test true later = sound.0
    by_test false later = later

pub has_room : (books : NumberedBooks) → AreSoundBooks books → HasRoom books.ledger
has_room books sound = let few = sound.sound.position_in in
    AreWithin-wider (40000000000 * books.position) (2 ^ 63 - 1 - 40000000000) (balances books.ledger) (omega (arith, few)) sound.sound.balances_in

pub sound_more : (old new : NumberedBooks) (command : Command) (policy : Policy) → AreSoundBooks old → HasSetPolicy old new command policy → IsSound policy
    → policy.id ≡ id_of command → IsValid command → old.position < most_commands → AreSoundBooks new
sound_more old new command policy sound taken here number valid fewer =
    let es : Entries = old.policies.entries in
    let figures = sound.sound in
    let keyed : AreKeyed new.policies.entries = subst AreKeyed (sym taken.entries) (insert_keyed (id_of command) policy es number sound.keyed) in
    let few = insert_few (id_of command) policy es in
    let many : length (numbered_policies new.policies.entries) ≡ length (numbered_policies (insert_entry nat_eq es (id_of command) policy)) = ap (λ (l : Entries). length (numbered_policies l)) taken.entries in
    record {
      keyed = keyed;
      sound = record {
        position_in = omega (arith, taken.position, fewer);
        upgrade_in = omega (arith, taken.position, taken.upgrade, figures.upgrade_in);
        policies_in = omega (arith, many, few, taken.position, figures.policies_in);
        balances_in = subst (λ n. AreWithin (40000000000 * n) (balances new.ledger)) (sym taken.position)
            (subst (AreWithin (40000000000 * (old.position + 1))) (sym taken.ledger)
            (within_added old.position (balances old.ledger) command policy valid here.issue_in.amount_in.1 figures.balances_in));
        sound = subst (λ (l : Entries). AllByRecursion IsSound (numbered_policies l)) (sym taken.entries) (insert_sound (id_of command) policy es here sound.sound.sound);
        distinct = subst (IsDistinct nat_eq) (keyed_ids new.policies.entries keyed) taken.distinct;
      };
    }

abbrev upgraded_books : NumberedBooks → NumberedBooks
upgraded_books old = record { policies = old.policies; position = old.position + 1; upgrade = old.position + 1; ledger = old.ledger }

pub sound_upgraded : (old : NumberedBooks) → AreSoundBooks old → old.position < most_commands
    → AreSoundBooks (record { policies = old.policies; position = old.position + 1; upgrade = old.position + 1; ledger = old.ledger })
sound_upgraded old sound fewer =
    let figures = sound.sound in
    record {
      keyed = sound.keyed;
      sound = record {
        position_in = omega (arith, fewer);
        upgrade_in = omega arith;
        policies_in = omega (arith, figures.policies_in);
        balances_in = AreWithin-wider (40000000000 * old.position) (40000000000 * (old.position + 1)) (balances old.ledger) (omega arith) figures.balances_in;
        sound = sound.sound.sound;
        distinct = sound.sound.distinct;
      };
    }

all_push : (P : Command → Type 0) (commands : List Command) (command : Command) → AllByRecursion P commands → P command → AllByRecursion P (commands ++ command ∷ [])
all_push P [] command all last = (last, tt)
all_push P (first ∷ rest) command all last = (all.0, all_push P rest command all.1 last)

-- what is judged by the books is judged after the commands
pub judged_same : (commands : List Command) (books : NumberedBooks) (command : Command) → AreBooksOf commands books → AreKeyed books.policies.entries
    → judged books.upgrade (lookup (nat_eq (id_of command)) books.policies.entries) command ≡ judged_after commands command
judged_same commands books command of keyed =
    let policy = book_lookup commands books.policies.entries keyed of.snapshot.policies (id_of command) in
    λ i. judged (of.snapshot.upgrade i) (policy i) command

pub refused : (commands : List Command) (books : NumberedBooks) (command : Command) (refusal : Refusal) → AreBooksOf commands books → AreKeyed books.policies.entries
    → judged books.upgrade (lookup (nat_eq (id_of command)) books.policies.entries) command ≡ Err refusal → judge commands command ≡ None → ⊥
refused commands books command refusal of keyed is none =
    let some : judge commands command ≡ Some refusal = ap refusal_in (sym (judged_same commands books command of keyed) ∙ is) in cc

-- a policy that was left has the command's number
pub left_number : (books : NumberedBooks) (command : Command) (policy : Policy) → AreKeyed books.policies.entries
    → judged books.upgrade (lookup (nat_eq (id_of command)) books.policies.entries) command ≡ Ok (Some policy) → policy.id ≡ id_of command
left_number books command policy keyed is =
    let before : Option Policy = lookup (nat_eq (id_of command)) books.policies.entries in
    subst (λ r. IfOk r (λ (p : Policy). p.id ≡ id_of command)) (judged_some books.upgrade before command policy is)
    (next-own before command (id_of command) refl (look_own (id_of command) books.policies.entries keyed))

pub left_named : (books : NumberedBooks) (command : Command) (policy : Policy)
    → judged books.upgrade (lookup (nat_eq (id_of command)) books.policies.entries) command ≡ Ok (Some policy) → is_upgrade command ≡ false
left_named books command policy is =
    let before : Option Policy = lookup (nat_eq (id_of command)) books.policies.entries in
    next-no_upgrade before command policy (judged_some books.upgrade before command policy is)

pub books_more : (commands : List Command) (old new : NumberedBooks) (command : Command) (policy : Policy) → AreBooksOf commands old → AreKeyed old.policies.entries
    → judged old.upgrade (lookup (nat_eq (id_of command)) old.policies.entries) command ≡ Ok (Some policy) → HasSetPolicy old new command policy → IsValid command
    → AreBooksOf (commands ++ command ∷ []) new
books_more commands old new command policy of keyed is taken valid =
    let same : judged_after commands command ≡ Ok (Some policy) = sym (judged_same commands old command of keyed) ∙ is in
    let ok : next (policy_of commands (id_of command)) command ≡ Ok policy = judged_some (upgrade_of commands) (policy_of commands (id_of command)) command policy same in
    let accepted : judge commands command ≡ None = ap refusal_in same in
    let named : is_upgrade command ≡ false = next-no_upgrade (policy_of commands (id_of command)) command policy ok in
    record {
      valid = all_push IsValid commands command of.valid valid;
      accepted = IsAccepted-push commands command of.accepted accepted;
      snapshot = record {
        position = omega (arith, taken.position, of.snapshot.position, length-append commands (command ∷ []));
        upgrade = taken.upgrade ∙ of.snapshot.upgrade ∙ sym (upgrade_from-other 1 commands command named);
        ledger = taken.ledger ∙ ap (λ b. added b (booking_of command policy)) of.snapshot.ledger ∙ sym (ledger_of-push commands command policy ok);
        policies = ap numbered_policies taken.entries ∙ book_more commands command policy old.policies.entries of.accepted keyed of.snapshot.policies ok;
      };
    }

after_upgrade : (commands : List Command) (old : NumberedBooks) → AreBooksOf commands old → judge commands Upgrade ≡ None → AreBooksOf (commands ++ Upgrade ∷ []) (upgraded_books old)
after_upgrade commands old of accepted =
    let all : IsAccepted (commands ++ Upgrade ∷ []) = IsAccepted-push commands Upgrade of.accepted accepted in
    let first = upgrade_from-first 1 commands [] Upgrade (omega arith) refl (accepted_upgrade commands [] all) in
    record {
      valid = all_push IsValid commands Upgrade of.valid tt;
      accepted = all;
      snapshot = record {
        position = omega (arith, of.snapshot.position, length-append commands (Upgrade ∷ []));
        upgrade = omega (arith, of.snapshot.position, first);
        ledger = of.snapshot.ledger ∙ sym (ledger_of-upgrade commands);
        policies = of.snapshot.policies ∙ sym (book-upgrade commands);
      };
    }

pub books_upgraded : (commands : List Command) (old : NumberedBooks) (command : Command) → AreBooksOf commands old → AreKeyed old.policies.entries
    → judged old.upgrade (lookup (nat_eq (id_of command)) old.policies.entries) command ≡ Ok None
    → AreBooksOf (commands ++ command ∷ []) (record { policies = old.policies; position = old.position + 1; upgrade = old.position + 1; ledger = old.ledger })
books_upgraded commands old command of keyed is =
    let before : Option Policy = lookup (nat_eq (id_of command)) old.policies.entries in
    let same : judged_after commands command ≡ Ok None = sym (judged_same commands old command of keyed) ∙ is in
    let upgraded : command ≡ Upgrade = judged_none old.upgrade before command is in
    let accepted : judge commands command ≡ None = ap refusal_in same in
    subst (λ c. AreBooksOf (commands ++ c ∷ []) (upgraded_books old)) (sym upgraded)
    (after_upgrade commands old of (subst (λ c. judge commands c ≡ None) upgraded accepted))

pub on_map : {T E : Type 0} (r : Result T E) (P Q : Type 0) → (P → Q) → OnOk r P → OnOk r Q
on_map (Ok x) P Q more has = more has
on_map (Err e) P Q more has = tt

pub kept_or : {T : Type 0} (r : Result T Unkept) (commands : List Command) (command : Command) (P : Type 0) → judge commands command ≡ None
    → OnOk r P → IfErr r (λ why. why ≡ NoMemory a_refusal)
    → MatchResult r (λ u. P) (λ why. IsUnkept (λ before next. judge before next ≡ None) commands command why)
kept_or (Ok x) commands command P accepted has none = has
kept_or (Err e) commands command P accepted has none = subst (IsUnkept (λ before next. judge before next ≡ None) commands command) (sym none) accepted

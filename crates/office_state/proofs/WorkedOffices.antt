-- What worked files of an office are stated by.
use Rattle.office_state.proofs.Names.{◌≡◌, ◌≢◌, ◌≤◌, ◌<◌, Option, Some, None, ◌++◌, ◌∷◌, ◌∙◌, ℕ, zero, suc, List, [], length, ap, sym, subst, refl, lit<, lit≤, length-append, arith, Command, Reply, Accepted, Faulted, Blank, Entry, Refusal, Taken, IsValid, judge, accepted_of, spelling_of, one_command, HasRecords, bodies_of, IsPending, JournalBytes, hand_issue, hand_premium, issue_body, issue_record, journal_of_two, premium_turn}
use Rattle.std.proofs.lemmas.Int.{ints}
use Rattle.life_dates.specs.Anniversary as dates
use Rattle.policy_types.specs.declared.entry.Call.TheVariants.{Post}

pub valid_issue : IsValid hand_issue
valid_issue = record {
  id_in = (lit≤ tt, lit≤ tt);
  day_in = (omega (arith, ints), omega (arith, ints));
  age_in = lit≤ tt;
  years_in = (lit≤ tt, lit≤ tt);
  amount_in = (lit≤ tt, lit≤ tt);
  premium_in = (lit≤ tt, lit≤ tt);
}

pub valid_premium : IsValid hand_premium
valid_premium = ((lit≤ tt, lit≤ tt), (omega (arith, ints), omega (arith, ints)), (lit≤ tt, lit≤ tt))

-- the record of the issue, whatever stands after it
one_record : (behind : List ℕ) → HasRecords (issue_record ++ behind) (bodies_of (hand_issue ∷ []))
unfolding spelling_of
one_record behind zero h = (refl, refl)
one_record behind (suc n) h = absurd (omega arith)

two_records : HasRecords journal_of_two (bodies_of (hand_issue ∷ hand_premium ∷ []))
unfolding spelling_of
two_records zero h = (refl, refl)
two_records (suc zero) h = (refl, refl)
two_records (suc (suc n)) h = absurd (omega arith)

longer : (front behind : List ℕ) → 82 ≤ length front → 82 < length (front ++ 0 ∷ behind)
longer front behind long = omega (arith, long, length-append front (0 ∷ behind))

-- the journal of the issue: a closed gate, and whatever after it
pub just_the_issue : (behind : List ℕ) → JournalBytes (issue_record ++ 0 ∷ behind) (hand_issue ∷ [])
just_the_issue behind = record {
  records = record {
    made = record { finished = refl; header = refl };
    records = one_record (0 ∷ behind);
    end = (there, λ e. let no : 0 ≡ 1 = e in omega arith);
    few = lit≤ tt;
  };
  valid = (valid_issue, tt);
  accepted = (refl, tt);
}
  where
    there : 82 < length (issue_record ++ 0 ∷ behind)
    there = longer issue_record behind (lit≤ tt)

pub both : JournalBytes journal_of_two (hand_issue ∷ hand_premium ∷ [])
unfolding dates.anniversary_of
both = record {
  records = record {
    made = record { finished = refl; header = refl };
    records = two_records;
    end = (lit< tt, λ e. let no : 0 ≡ 1 = e in omega arith);
    few = lit≤ tt;
  };
  valid = (valid_issue, (valid_premium, tt));
  accepted = (refl, (refl, tt));
}

-- the issue can't follow itself
pub not_again : (command : Command) → issue_body ≡ spelling_of command → IsValid command → judge (hand_issue ∷ []) command ≢ None
unfolding spelling_of
not_again command same valid follows =
    let it : command ≡ hand_issue = one_command issue_body command hand_issue (record { valid = valid; spelled = same }) (record { valid = valid_issue; spelled = refl }) in
    let accepted : judge (hand_issue ∷ []) hand_issue ≡ None = subst (λ (c : Command). judge (hand_issue ∷ []) c ≡ None) it follows in
    let taken : judge (hand_issue ∷ []) hand_issue ≡ Some Taken = refl in
    let no : ◌≡◌ {A = Option Refusal} (Some Taken) None = sym taken ∙ accepted in
    cc

reply_of : List Entry → Reply
reply_of [] = Blank
reply_of (entry ∷ more) = entry.reply

tail_of : List Entry → List Entry
tail_of [] = []
tail_of (entry ∷ more) = more

-- the first of two turns met a fault, before the second was accepted
pub not_then : (before after : List Entry) (caller count : ℕ) (command : Command)
    → premium_turn (Faulted 4) ∷ premium_turn (Accepted 2) ∷ [] ≡ before ++ (record { caller = caller; call = Post command; reply = Faulted count }) ∷ after
    → accepted_of before ≡ hand_premium ∷ [] → ⊥
unfolding tail_of reply_of
not_then [] after caller count command e then = cc
not_then (first ∷ []) after caller count command e then =
    let no : Accepted 2 ≡ Faulted count = ap (λ (xs : List Entry). reply_of (tail_of xs)) e in
    cc
not_then (first ∷ second ∷ before) after caller count command e then =
    let no : [] ≡ before ++ (record { caller = caller; call = Post command; reply = Faulted count }) ∷ after = ap (λ (xs : List Entry). tail_of (tail_of xs)) e in
    empty_not before no
  where
    empty_not : (xs : List Entry) → [] ≡ xs ++ (record { caller = caller; call = Post command; reply = Faulted count }) ∷ after → ⊥
    empty_not [] e = cc
    empty_not (x ∷ xs) e = cc

pub no_turns : (command : Command) → IsPending [] command → ⊥
no_turns command pending = by pending.before pending.turns
  where
    by : (xs : List Entry) → [] ≡ xs ++ (record { caller = pending.caller; call = Post command; reply = Faulted pending.count }) ∷ pending.after → ⊥
    by [] e = cc
    by (x ∷ xs) e = cc

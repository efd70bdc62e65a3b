-- What worked endings are stated by.
use Rattle.program_endings.proofs.Names.{◌≡◌, ◌≤◌, ◌<◌, ◌++◌, ◌∙◌, ℕ, zero, suc, List, [], ◌∷◌, length, take, ap, inl, inr, subst, Some, None, codes, lit<, arith, slice_get, slice_index, Rose, Command, Post, Reply, Faulted, Pinned, Blank, Entry, Stream, WroteLine}
use Rattle.outside_io.specs.declared.disks.Disk.{Ghosts}
use Rattle.office_state.specs.declared.faults.StartCause.{StartCause}
use Rattle.office_state.specs.declared.faults.StartCause.TheVariants.{NotAJournal, BadRecord, DiskFault, NoMemory}
use Rattle.office_state.specs.Journals.{IsShown}
use Rattle.office_state.proofs.JournalLaws.{shown_once}
use Rattle.program_endings.specs.Refusals.{SaysWhy}
use Rattle.program_endings.specs.Worked.{pinned_turn, RefusesHello}

pub no_fault : Rose 3 3 → ⊥
no_fault rose = let no : 4 ≤ 3 = rose in omega arith

pub same_some : {A : Type 0} (a b : A) → Some a ≡ Some b → a ≡ b
same_some a b e = cc

-- no front of the line stands after the `a`
pub no_front : (n : ℕ) → codes "aux" ≡ codes "a" ++ take n (codes "usage" ++ 10 ∷ []) → ⊥
no_front zero e = let no : ◌≡◌ {A = ℕ} 3 1 = ap (λ (xs : List ℕ). length xs) e in omega arith
no_front (suc zero) e = let no : ◌≡◌ {A = ℕ} 3 2 = ap (λ (xs : List ℕ). length xs) e in omega arith
no_front (suc (suc n)) e = let no : ◌≡◌ {A = ℕ} 120 115 = ap (λ (xs : List ℕ). slice_index xs 2) e in omega arith

pub no_part : (n : ℕ) → n < 1 → codes "ab" ≡ codes "a" ++ take n (codes "b") → ⊥
no_part zero few e = let no : ◌≡◌ {A = ℕ} 2 1 = ap (λ (xs : List ℕ). length xs) e in omega arith
no_part (suc n) few e = omega arith

pub no_blank : (n : ℕ) (entry : Entry) → slice_get (pinned_turn ∷ []) n ≡ Some entry → entry.reply ≡ Blank → ⊥
no_blank zero entry e blank =
    let same : pinned_turn ≡ entry = same_some pinned_turn entry e in
    let no : Pinned 5 2 ≡ Blank = ap (λ (it : Entry). it.reply) same ∙ blank in
    cc
no_blank (suc n) entry e blank = let no : None ≡ Some entry = e in cc

pub no_faulted : (before after : List Entry) (caller count : ℕ) (command : Command)
    → pinned_turn ∷ [] ≡ before ++ (record { caller = caller; call = Post command; reply = Faulted count }) ∷ after → ⊥
no_faulted [] after caller count command e =
    let same : Pinned 5 2 ≡ Faulted count = ap reply_of e in
    cc
  where
    reply_of : List Entry → Reply
    reply_of [] = Blank
    reply_of (entry ∷ more) = entry.reply
no_faulted (first ∷ []) after caller count command e = let no : 1 ≡ suc (suc (length after)) = ap (λ (xs : List Entry). length xs) e in omega arith
no_faulted (first ∷ second ∷ before) after caller count command e = let no : 1 ≡ suc (suc (length (before ++ (record { caller = caller; call = Post command; reply = Faulted count }) ∷ after))) = ap (λ (xs : List Entry). length xs) e in omega arith

-- ---- a file that is no journal

hello_is_foreign : IsShown (codes "hello") NotAJournal
hello_is_foreign = record {
  finished = λ unfinished. elim unfinished [
    | inl few ↦ let no : 5 ≤ 1 = few in omega arith
    | inr more ↦ elim more [
      | inl begun ↦ let no : ◌≡◌ {A = ℕ} 104 0 = begun.1 in omega arith
      | inr ready ↦ let no : ◌≡◌ {A = ℕ} 5 18 = ready.0 in omega arith
    ]
  ];
  other = inl (lit< tt);
}

not_a_record : (n : ℕ) → NotAJournal ≡ BadRecord n → ⊥
not_a_record n e = cc

said_of_hello : (cause : StartCause) (output : Stream) → SaysWhy cause output → IsShown (codes "hello") cause → WroteLine output (codes "badjournal,notajournal")
said_of_hello NotAJournal output says shown = says
said_of_hello (BadRecord n) output says shown = absurd (not_a_record n (shown_once (codes "hello") NotAJournal (BadRecord n) tt tt hello_is_foreign shown))
said_of_hello (DiskFault count) output says shown = absurd says
said_of_hello (NoMemory lack) output says shown = absurd says

pub refuses_hello : {D : Type 0} (g : Ghosts D) → RefusesHello g
refuses_hello g old new output honest reads refused =
    said_of_hello refused.0 output refused.1 (subst (λ (bytes : List ℕ). IsShown bytes refused.0) reads (refused.2 honest))

-- A file is one thing.
use Rattle.posting_journal.proofs.Names.{◌≡◌, ◌⊎◌, inl, inr, ⊎_elim, ℕ, ◌<◌, ◌≤◌, List, [], length, refl, sym, ◌∙◌, ap, arith, ext_get_or, cases_lt, IsJournal, IsUnfinished, OpensToBodies, IsForeign, IsBadAt, IsMade}
use Rattle.posting_journal.specs.Starting.{IsRefusedFor, ShowsCause, IsFault}
use Rattle.posting_journal.specs.declared.faults.JournalCause.{JournalCause}
use Rattle.posting_journal.specs.declared.faults.JournalCause.TheVariants.{DiskFault, NotAJournal, BadRecord}

-- the end of one list is no record of another
not_longer : (bytes : List ℕ) (xs ys : List (List ℕ)) → IsJournal bytes xs → IsJournal bytes ys → length ys ≤ length xs
not_longer bytes xs ys one other = elim (cases_lt (length xs) (length ys)) [
  | inl longer ↦ absurd (one.end.1 (other.records (length xs) longer).0)
  | inr at_most ↦ at_most
]

pub one_journal : (bytes : List ℕ) (xs ys : List (List ℕ)) → IsJournal bytes xs → IsJournal bytes ys → xs ≡ ys
one_journal bytes xs ys one other =
    let size : length xs ≡ length ys = omega (arith, not_longer bytes xs ys one other, not_longer bytes ys xs other one) in
    ext_get_or [] xs ys size (λ k lt. let within : k < length ys = omega arith in sym (one.records k lt).1 ∙ (other.records k within).1)

-- what is longer than byte 0 and made is no unfinished creation
made_finished : (bytes : List ℕ) → 17 < length bytes → IsMade bytes → ¬ IsUnfinished bytes
made_finished bytes long made (inl short) = omega (arith, short, long)
made_finished bytes long made (inr (inl begun)) = let clash : 0 ≡ 1 = sym begun.1 ∙ made.finished in omega (arith, clash)
made_finished bytes long made (inr (inr nearly)) = nearly.3 made.finished

pub journal_finished : (bytes : List ℕ) (xs : List (List ℕ)) → IsJournal bytes xs → ¬ IsUnfinished bytes
journal_finished bytes xs journal = made_finished bytes (omega (arith, journal.end.0)) journal.made

pub opens_once : (bytes : List ℕ) (xs ys : List (List ℕ)) → OpensToBodies bytes xs → OpensToBodies bytes ys → xs ≡ ys
opens_once bytes xs ys (inl one) (inl other) = one_journal bytes xs ys one other
opens_once bytes xs ys (inl one) (inr other) = absurd (journal_finished bytes xs one other.1)
opens_once bytes xs ys (inr one) (inl other) = absurd (journal_finished bytes ys other one.1)
opens_once bytes xs ys (inr one) (inr other) = one.0 ∙ sym other.0

pub foreign_never : (bytes : List ℕ) (xs : List (List ℕ)) → IsForeign bytes → ¬ OpensToBodies bytes xs
foreign_never bytes xs foreign (inr creation) = foreign.finished creation.1
foreign_never bytes xs foreign (inl journal) =
    ⊎_elim (λ short. omega (arith, short, journal.end.0)) (λ rest. ⊎_elim (λ closed. closed journal.made.finished) (λ other. other journal.made.header) rest) foreign.other

pub bad_never : (bytes : List ℕ) (n : ℕ) (xs : List (List ℕ)) → IsBadAt bytes n → ¬ OpensToBodies bytes xs
bad_never bytes n xs bad (inr creation) = made_finished bytes (omega (arith, bad.long)) bad.made creation.1
bad_never bytes n xs bad (inl journal) = elim (cases_lt n (length xs)) [
  | inr past ↦ journal.end.1 (bad.gates (length xs) past)
  | inl within ↦ ⊎_elim (λ cut. omega (arith, cut, journal.end.0, within)) (λ full. omega (arith, full, within, journal.few)) bad.here
]

pub one_cause : (bytes : List ℕ) (n : ℕ) → IsForeign bytes → ¬ IsBadAt bytes n
one_cause bytes n foreign bad =
    ⊎_elim (λ short. omega (arith, short, bad.long)) (λ rest. ⊎_elim (λ closed. closed bad.made.finished) (λ other. other bad.made.header) rest) foreign.other

not_later : (bytes : List ℕ) (n m : ℕ) → IsBadAt bytes n → IsBadAt bytes m → n ≤ m
not_later bytes n m one other = elim (cases_lt m n) [
  | inr at_most ↦ at_most
  | inl less ↦ absurd (⊎_elim (λ cut. omega (arith, cut, less, one.long)) (λ full. omega (arith, full, less, one.few)) other.here)
]

pub one_place : (bytes : List ℕ) (n m : ℕ) → IsBadAt bytes n → IsBadAt bytes m → n ≡ m
one_place bytes n m one other = omega (arith, not_later bytes n m one other, not_later bytes m n other one)

pub refusal_never : (bytes : List ℕ) (cause : JournalCause) (xs : List (List ℕ)) → IsRefusedFor bytes cause → ¬ OpensToBodies bytes xs
refusal_never bytes (DiskFault count) xs refusal = absurd refusal
refusal_never bytes NotAJournal xs refusal = foreign_never bytes xs refusal
refusal_never bytes (BadRecord n) xs refusal = bad_never bytes n xs refusal

pub due_cause : (bytes : List ℕ) (given cause : JournalCause) → IsRefusedFor bytes cause → ShowsCause bytes given → (given ≡ cause) ⊎ IsFault given
due_cause bytes (DiskFault count) cause refusal shown = inr tt
due_cause bytes given (DiskFault count) refusal shown = absurd refusal
due_cause bytes NotAJournal NotAJournal refusal shown = inl refl
due_cause bytes NotAJournal (BadRecord n) refusal shown = absurd (one_cause bytes n shown refusal)
due_cause bytes (BadRecord n) NotAJournal refusal shown = absurd (one_cause bytes n refusal shown)
due_cause bytes (BadRecord n) (BadRecord m) refusal shown = inl (ap (λ k. BadRecord k) (one_place bytes n m shown refusal))

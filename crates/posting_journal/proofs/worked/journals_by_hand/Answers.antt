use Rattle.posting_journal.proofs.Names.{◌≡◌, ℕ, zero, suc, List, [], ◌∷◌, ap, refl, inl, lit<, lit≤, arith, slice_index, HasRecords}
use Rattle.posting_journal.specs.Worked.{two_records, of_sevens, of_zeros_and_nine}
use Rattle.posting_journal.proofs.worked.journals_by_hand.Goals as goal

both : HasRecords two_records (of_sevens ∷ of_zeros_and_nine ∷ [])
both zero h = (refl, refl)
both (suc zero) h = (refl, refl)
both (suc (suc n)) h = absurd (omega arith)

pub returns-clause-two : goal.returns-clause-two
returns-clause-two c = (
  record {
    made = record { finished = refl; header = refl };
    records = both;
    end = (lit< tt, λ e. let no : 0 ≡ 1 = e in cc);
    few = lit≤ tt;
  },
  (λ h. h.end.1 refl),
  (λ h. let no : 7 ≡ 0 = ap (λ (xs : List ℕ). slice_index xs 0) (h.records 0 (lit< tt)).1 in cc),
)

pub returns-clause-none : goal.returns-clause-none
returns-clause-none c = inl record {
  made = record { finished = refl; header = refl };
  records = λ n h. absurd (omega arith);
  end = (lit< tt, λ e. let no : 2 ≡ 1 = e in cc);
  few = lit≤ tt;
}

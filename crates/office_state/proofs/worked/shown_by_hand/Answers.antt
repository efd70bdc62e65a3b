use Rattle.office_state.proofs.Names.{◌≡◌, ◌≤◌, ◌++◌, ℕ, zero, suc, [], ◌∷◌, List, ap, refl, inl, inr, lit<, lit≤, arith, slice_index, spelling_of, HasRecords, hand_issue, issue_body, issue_record}
use Rattle.std.specs.Prelude.{replicate}
use Rattle.posting_journal.specs.Layout.{gate_place}
use Rattle.posting_journal.proofs.WorkedFiles.{not_unfinished}
use Rattle.office_state.proofs.WorkedOffices.{valid_issue, not_again}
use Rattle.office_state.proofs.worked.shown_by_hand.Goals as goal

abbrev twice : List ℕ
twice = issue_record ++ 1 ∷ issue_body ++ 0 ∷ []

twice_records : HasRecords twice (issue_body ∷ issue_body ∷ [])
twice_records zero h = (refl, refl)
twice_records (suc zero) h = (refl, refl)
twice_records (suc (suc n)) h = absurd (omega arith)

cut_gates : (k : ℕ) → k ≤ 0 → slice_index issue_record (gate_place k) ≡ 1
cut_gates zero h = refl
cut_gates (suc k) h = absurd (omega arith)

pub returns-clause-alike : goal.returns-clause-alike
returns-clause-alike c = ([], inr (refl, inl (lit≤ tt)), inr (refl, inr (inl (lit≤ tt, refl))))

pub returns-clause-causes : goal.returns-clause-causes
unfolding spelling_of
returns-clause-causes c = (
  record {
    finished = not_unfinished (replicate 18 65) (λ h. let no : 18 ≤ 1 = h in omega arith) (λ h. let no : 65 ≡ 0 = h.1 in omega arith)
        (λ h. let no : 65 ≡ 76 = ap (λ (xs : List ℕ). slice_index xs 0) h.1 in omega arith);
    other = inr (inl (λ e. let no : 65 ≡ 1 = e in omega arith));
  },
  inl record {
    made = record { finished = refl; header = refl };
    gates = cut_gates;
    long = lit< tt;
    few = lit≤ tt;
    here = inl (lit≤ tt);
  },
  inr record {
    commands = hand_issue ∷ [];
    body = issue_body;
    rest = [];
    counted = refl;
    records = record {
      made = record { finished = refl; header = refl };
      records = twice_records;
      end = (lit< tt, λ e. let no : 0 ≡ 1 = e in omega arith);
      few = lit≤ tt;
    };
    valid = (valid_issue, tt);
    accepted = (refl, tt);
    none = not_again;
  },
)

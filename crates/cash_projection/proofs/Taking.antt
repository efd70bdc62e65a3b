-- Each way in which a policy is taken into a tally.
use Rattle.cash_projection.proofs.Names.{◌≡◌, ℕ, refl, ap, sym, arith, List, [], ◌∷◌, ◌++◌, length, All, ℤ, ◌<ℤ◌, Result, Ok, Err, Some, slice_get, Policy, table_along, Dated, IsPicked, IsSmall, nothing_ahead, prospect_of, IsTableOfRow, HasAdded, HasCounted, HasCountedBy, Tally}
use Rattle.rate_table.specs.declared.shape.Shape.{Shape}
use Rattle.select_rates.specs.declared.any.AnyTable.{AnyTable}
use Rattle.plan_benefits.specs.Shapes.{shape_of}
use Rattle.plan_benefits.specs.declared.fault.NotValued.{NotValued}
use Rattle.basis_book.proofs.CallerLemmas.{none_picked, one_picked}
use Rattle.policy_value.specs.Rows.{IsInsured, IsYear}
use Rattle.cash_projection.proofs.Adding.{nothing_small}

pub taken_by : (policy : Policy) (table : AnyTable) (on : ℤ) (shape : Shape) (t : ℕ) (r : Result Shape NotValued) (old new : Tally) → r ≡ Ok shape
    → IsYear policy.issued on shape.n t → IsSmall (prospect_of policy (table_along table shape.age) shape t) → HasAdded old.years (prospect_of policy (table_along table shape.age) shape t) old new
    → HasCountedBy policy table on r old new
taken_by policy table on shape t r old new is year small added =
    rw is (record { prospect = prospect_of policy (table_along table shape.age) shape t; is = (t, year, refl); small = small; added = added })

pub worded_by : (policy : Policy) (table : AnyTable) (on : ℤ) (word : NotValued) (r : Result Shape NotValued) (old new : Tally) → r ≡ Err word
    → HasAdded old.years (nothing_ahead 1) old new → HasCountedBy policy table on r old new
worded_by policy table on word r old new is added =
    rw is (record { prospect = nothing_ahead 1; is = refl; small = nothing_small 1 (omega arith); added = added })

pub uninsured_taken : (basis : List Dated) (on : ℤ) (policy : Policy) (old new : Tally) → (IsInsured policy on → ⊥)
    → HasAdded old.years (nothing_ahead 0) old new → HasCounted basis on policy old new
uninsured_taken basis on policy old new not added = record {
  prospect = nothing_ahead 0;
  is = record {
    uninsured = λ _. refl;
    unnamed = λ insured. absurd (not insured);
    named = λ insured. absurd (not insured);
  };
  small = nothing_small 0 (omega arith);
  added = added;
}

pub unnamed_taken : (basis : List Dated) (on : ℤ) (policy : Policy) (old new : Tally) → IsInsured policy on
    → All (λ (entry : Dated). policy.issued <ℤ entry.from_day) basis → HasAdded old.years (nothing_ahead 1) old new → HasCounted basis on policy old new
unnamed_taken basis on policy old new insured none added = record {
  prospect = nothing_ahead 1;
  is = record {
    uninsured = λ not. absurd (not insured);
    unnamed = λ _ _. refl;
    named = λ _ index entry picked. absurd (none_picked basis policy.issued index entry none picked);
  };
  small = nothing_small 1 (omega arith);
  added = added;
}

pub named_taken : (basis : List Dated) (on : ℤ) (policy : Policy) (old new : Tally) (index : ℕ) (entry : Dated) → IsInsured policy on
    → IsPicked basis policy.issued index entry → HasCountedBy policy entry.table on (shape_of policy.plan policy.age policy.years entry.table) old new
    → HasCounted basis on policy old new
named_taken basis on policy old new index entry insured picked taken = record {
  prospect = taken.prospect;
  is = record {
    uninsured = λ not. absurd (not insured);
    unnamed = λ _ none. absurd (none_picked basis policy.issued index entry none picked);
    named = λ _ place other again.
        let same = one_picked basis policy.issued index place entry other picked again in
        let table : other.table ≡ entry.table = ap (λ (e : Dated). e.table) (sym same.1) in
        rw table taken.is;
  };
  small = taken.small;
  added = taken.added;
}

-- the row that is picked
cut_at : (before : List Dated) (entry : Dated) (after : List Dated) → slice_get (before ++ entry ∷ after) (length before) ≡ Some entry
cut_at [] entry after = refl
cut_at (x ∷ xs) entry after = cut_at xs entry after

pub picked_row : (basis : List Dated) (issued : ℤ) (index : ℕ) (entry : Dated) (table : AnyTable) → IsPicked basis issued index entry
    → table ≡ entry.table → IsTableOfRow basis index table
picked_row basis issued index entry table picked is =
    (entry, rw (picked.split, picked.place) (cut_at picked.before entry picked.after), is)

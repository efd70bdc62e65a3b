use Rattle.basis_shelf.proofs.Names.{◌≡◌, ◌+◌, ℕ, All, List, [], ◌∷◌, Option, None, Some, Ok, Err, length, refl, inl, inr, codes, pos, lit≤, arith, All-nil, Aggregate, IsAnyAnswer, SpellsAny, NotDocument, Bad, any_fault_due, BasisRow, HasTable}
use Rattle.std.specs.Fmt.{digits}
use Rattle.xtbml_subset.proofs.WorkedTables.{tables_on_literals, one}
use Rattle.xtbml_subset.proofs.WorkedSelectTables.{select_on_literals, any_judged}
use Rattle.basis_book.proofs.WorkedRows.{one_right_row, one_bad_row}
use Rattle.basis_shelf.specs.Lines.{bad_basis_text}
use Rattle.basis_shelf.specs.Worked.{shelf_with, one_row, certain_death}
use Rattle.basis_shelf.proofs.worked.shelves_by_hand.Goals as goal

abbrev the_row : BasisRow
the_row = record { from_day = pos 10957; table = codes "q.xml"; bp = 400 }

is_table : SpellsAny certain_death (Aggregate (record { first_age = 60; rates = 1000000000 ∷ [] }))
unfolding select_on_literals
is_table = any_judged _ _ refl (
  Ok (record { first_age = 60; rates = 1000000000 ∷ [] }),
  (Ok tt, refl, (Ok (1000000000 ∷ []), (Ok (Some 61, 1000000000), (Some 1000000000, one, refl), (Ok [], refl, refl)), refl)),
  refl,
)

not_a_document : IsAnyAnswer (codes "<XTbML></Table>") (Err (Bad 7 NotDocument))
unfolding tables_on_literals
not_a_document = any_fault_due (codes "<XTbML></Table>") 7 refl

no_tables : (table : Option (List ℕ)) → All (λ (other : BasisRow). HasTable (shelf_with one_row table) other.table) []
no_tables table = All-nil (λ (other : BasisRow). HasTable (shelf_with one_row table) other.table)

pub returns-clause-basis : goal.returns-clause-basis
returns-clause-basis c = record {
  rows = the_row ∷ [];
  file = (one_row, (refl, lit≤ tt), one_right_row);
  each = ((refl, (certain_death, (refl, lit≤ tt), is_table), refl), tt);
}

pub returns-clause-bad : goal.returns-clause-bad
returns-clause-bad c = (
  inl (refl, (refl, refl)),
  inl (refl, (codes "2000-01-01,q.xml\n", (refl, lit≤ tt), one_bad_row)),
  inr (
    the_row ∷ [],
    (one_row, (refl, lit≤ tt), one_right_row),
    record {
      before = [];
      row = the_row;
      after = [];
      split = refl;
      tables = no_tables None;
      name = refl;
      wrong = (refl, refl);
    },
  ),
  inr (
    the_row ∷ [],
    (one_row, (refl, lit≤ tt), one_right_row),
    record {
      before = [];
      row = the_row;
      after = [];
      split = refl;
      tables = no_tables (Some (codes "<XTbML></Table>"));
      name = refl;
      wrong = (codes "<XTbML></Table>", (refl, lit≤ tt), not_a_document);
    },
  ),
)

pub returns-clause-none : goal.returns-clause-none
returns-clause-none c = (
  (λ h. elim h [
    | inl book ↦ let no : Some one_row ≡ None = book.1.0 in cc
    | inr table ↦ let no : 0 ≡ length table.2.before + 1 = table.2.wrong.1 in omega arith
  ]),
  (λ h. elim h [
    | inl book ↦ let no : 1 ≡ 0 = book.1.1 in omega arith
    | inr table ↦ let no : None ≡ Some table.1.0 = table.1.1.0 in cc
  ]),
)

pub returns-clause-lines : goal.returns-clause-lines
unfolding digits bad_basis_text
returns-clause-lines c = (refl, refl)

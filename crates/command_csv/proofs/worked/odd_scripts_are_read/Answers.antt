use Rattle.command_csv.proofs.Names.{refl, [], ◌∷◌, pos, arith, lit≤, digits, ints, csv_on_literals, date_of, month_of, days_before_year, days_of_months, day_text, Lapse, Claim, Post, by_first, row_fields}
use Rattle.command_csv.proofs.WorkedScripts.{says, row_is}
use Rattle.command_csv.proofs.worked.odd_scripts_are_read.Goals as goal

pub returns : goal.returns
unfolding csv_on_literals digits day_text date_of month_of days_before_year days_of_months
returns c =
    let first = Post (Lapse 7001 (pos 19025)) in
    let second = Post (Claim 7001 (pos 19357)) in
    let third = Post (Lapse 7002 (pos 19025)) in
    says _ (first ∷ second ∷ third ∷ []) (row_fields (by_first first) ∷ row_fields (by_first second) ∷ row_fields (by_first third) ∷ []) refl
    record {
      each = (row_is first ((lit≤ tt, lit≤ tt), (omega (arith, ints), omega (arith, ints))), (row_is second ((lit≤ tt, lit≤ tt), (omega (arith, ints), omega (arith, ints))), (row_is third ((lit≤ tt, lit≤ tt), (omega (arith, ints), omega (arith, ints))), tt)));
      few = lit≤ tt;
    }

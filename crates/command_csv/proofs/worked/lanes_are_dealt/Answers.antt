use Rattle.command_csv.proofs.Names.{refl, [], ◌∷◌, pos, arith, lit≤, digits, ints, csv_on_literals, date_of, month_of, days_before_year, days_of_months, day_text, Lapse, Claim, Now, Post, Value, Trim, row_fields}
use Rattle.command_csv.proofs.Lines.{entry_of}
use Rattle.command_csv.proofs.WorkedScripts.{reads, row_of}
use Rattle.command_csv.proofs.worked.lanes_are_dealt.Goals as goal

pub returns : goal.returns
unfolding csv_on_literals digits day_text date_of month_of days_before_year days_of_months
returns c =
    let first = Post (Lapse 7001 (pos 19025)) in
    let second = Post (Claim 7002 (pos 19357)) in
    let third = Post (Lapse 7003 (pos 19025)) in
    let valued = Value (pos 18262) Now 64 in
    reads _ (entry_of 8 Trim ∷ entry_of 3 first ∷ entry_of 1 second ∷ entry_of 3 Trim ∷ entry_of 8 valued ∷ entry_of 1 third ∷ [])
    (row_fields (entry_of 8 Trim) ∷ row_fields (entry_of 3 first) ∷ row_fields (entry_of 1 second) ∷ row_fields (entry_of 3 Trim) ∷ row_fields (entry_of 8 valued) ∷ row_fields (entry_of 1 third) ∷ []) refl
    record {
      each = (
        row_of 8 Trim (lit≤ tt, lit≤ tt) tt,
        (
          row_of 3 first (lit≤ tt, lit≤ tt) ((lit≤ tt, lit≤ tt), (omega (arith, ints), omega (arith, ints))),
          (
            row_of 1 second (lit≤ tt, lit≤ tt) ((lit≤ tt, lit≤ tt), (omega (arith, ints), omega (arith, ints))),
            (
              row_of 3 Trim (lit≤ tt, lit≤ tt) tt,
              (
                row_of 8 valued (lit≤ tt, lit≤ tt) ((omega (arith, ints), omega (arith, ints)), tt, (lit≤ tt, lit≤ tt)),
                (
                  row_of 1 third (lit≤ tt, lit≤ tt) ((lit≤ tt, lit≤ tt), (omega (arith, ints), omega (arith, ints))),
                  tt,
                ),
              ),
            ),
          ),
        ),
      );
      few = lit≤ tt;
    }

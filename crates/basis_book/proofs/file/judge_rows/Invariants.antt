use Rattle.basis_book.proofs.Names.{◌≡◌, ℕ, List, Some, true, Reached, Ready, default_config, is_flexible, reader_config, reader_state, reader_trim, source_of, strip_bom}
use Rattle.csv.specs.declared.parser.State.TheVariants as st
use Rattle.csv.specs.declared.reader.Trim.TheVariants as trim
use Rattle.basis_book.specs.inside.Judged.{Judged}
use Rattle.basis_book.proofs.Leftover.{left_size}
use Rattle.basis_book.proofs.file.judge_rows.Given as goal

abbrev pub invariant-loop-reading : goal.invariant-loop-reading
invariant-loop-reading l = (reader_trim l.rows ≡ trim.None) × Ready l.rows × (reader_config l.rows ≡ default_config)
    × (y : List ℕ) × (source_of (λ s. Some s.now) l.rows ≡ Some y)
    × (rows : List (List (List ℕ))) × Reached default_config st.StartRecord (strip_bom l.fn.bytes) rows (reader_state l.rows) y
    × Judged rows l.reading × (is_flexible l.rows ≡ true)

abbrev pub decreases-loop-reading : goal.decreases-loop-reading
decreases-loop-reading l = left_size l.rows

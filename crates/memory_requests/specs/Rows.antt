-- A reader that has read nothing yet, and takes no row for a header row
use Rattle.std.specs.Borrow.{Bor}
use Rattle.std.specs.Prelude.{◌≡◌, ℕ, List, Some, true}
use Rattle.csv.specs.Reading.{Ready, default_config, is_flexible, reader_config, reader_state, reader_trim, source_of, strip_bom}
use Rattle.csv.specs.declared.parser.State.TheVariants as st
use Rattle.csv.specs.declared.reader.Reader.{Reader}
use Rattle.csv.specs.declared.reader.Trim.TheVariants as trim

-- it reads these bytes, except for a byte order mark at the start, and accepts rows of any length
pub record HasReadNothing (bytes : List ℕ) (rows : Reader (Bor (List ℕ))) : Type 0 where
  pub ready : Ready rows
  pub config : reader_config rows ≡ default_config
  pub plain : reader_trim rows ≡ trim.None
  pub state : reader_state rows ≡ st.StartRecord
  pub source : source_of (λ (left : Bor (List ℕ)). Some left.now) rows ≡ Some (strip_bom bytes)
  pub flexible : is_flexible rows ≡ true

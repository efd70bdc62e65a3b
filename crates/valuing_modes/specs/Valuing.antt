-- How `value` ends: what was written of the policies at a position of the disk's file, by the basis on the shelf
use Rattle.std.specs.Prelude.{◌≡◌, ℕ, ◌<◌, ◌≤◌, ◌⊎◌, ℤ, List, ◌++◌, length, take, codes, decimal}
use Rattle.valuing_modes.specs.Names.{AllZip, Ghosts, Command, Now, Position, Dated, Shelving, Stream, WroteLine, Ending, Ahead, At, book, Measure, block_text, HoldsStill, EndsReadOnly, EndsOverBasis}
use Rattle.policy_value.specs.declared.worth.Row.{Row}
use Rattle.policy_value.specs.Rows.{IsValuedRow}

-- after how many commands the policies are valued, if there are so many: all of them, or as many as are asked for
abbrev pub position_of : At → ℕ → ℕ
position_of Now count = count
position_of (Position p) count = p

-- there are as many commands as are asked for; and the text was written for the policies that these leave, each with
-- its row by the measure
pub record IsValuation (commands : List Command) (on : ℤ) (at : At) (measure : Measure) (basis : List Dated)
    (Wrote : List ℕ → Type 0) : Type 0 where
  pub reached : position_of at (length commands) ≤ length commands
  pub rows : List Row
  pub each : AllZip (IsValuedRow basis on measure) (book (take (position_of at (length commands)) commands)) rows
  pub wrote : Wrote (block_text 0 on (position_of at (length commands)) measure rows)

-- more commands are asked for than there are, and their number was written
pub record IsBeyond (commands : List Command) (at : At) (output : Stream) : Type 0 where
  pub ahead : length commands < position_of at (length commands)
  pub line : WroteLine output (codes "refused,ahead," ++ decimal (length commands))

-- how `value` ends: the policies of the disk's file were valued by the basis, or more commands were asked for than it
-- has, and the disk holds its commands still; or a line says why not; without a basis the disk isn't touched
abbrev pub EndsValue : {D : Type 0} → Ghosts D → D → D → ℤ → At → Measure → List ℕ → Shelving → Stream → Ending → Type 0
EndsValue g old new on at measure name shelf output ending =
    EndsOverBasis old new (λ basis.
    EndsReadOnly g old new (λ Wrote. HoldsStill g old new (λ commands. IsValuation commands on at measure basis Wrote)) output ending
    ⊎ ((ending ≡ Ahead) × HoldsStill g old new (λ commands. IsBeyond commands at output)))
    name shelf output ending

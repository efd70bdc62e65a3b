-- Worked cases of scripts as an input gives them, and of how a run ends that read none
use Rattle.std.specs.Prelude.{◌≡◌, ℕ, true, false, List, [], ◌∷◌, ◌++◌, None, codes, pos, length}
use Rattle.policy_types.specs.declared.entry.At.TheVariants.{Now}
use Rattle.script_run.specs.Names.{taken_bytes, BadScript, ReadFault, Input}
use Rattle.policy_types.specs.declared.script.Line.TheVariants.{Value, Trim}
use Rattle.program_endings.specs.Worked.{output_with}
use Rattle.script_run.specs.Script.{EndsUnread, asks_for_values}
use Rattle.script_run.specs.inside.Ran.{WroteUpTo}
use Rattle.script_run.specs.inside.Unread.{GaveTooMany, bad_row_text}

-- a valuation in the second lane, and no valuation
abbrev pub AskedForValues : Type 0
AskedForValues = (asks_for_values ((record { number = 1; lines = Trim ∷ [] })
    ∷ (record { number = 3; lines = Trim ∷ Value (pos 18262) Now 1 ∷ [] }) ∷ []) ≡ true)
    × (asks_for_values ((record { number = 1; lines = Trim ∷ [] }) ∷ []) ≡ false)

abbrev pub BadRowText : Type 0
BadRowText = bad_row_text 17 2 ≡ codes "badscript,17,2"

-- an input that gave these bytes, up to its end or not, with so many faults
abbrev pub input_that_gave : List ℕ → Type 0 → ℕ → Input
input_that_gave bytes Ended faults = record {
  faults_before = 0;
  faults_after = faults;
  left_before = None;
  left_after = None;
  given_before = [];
  given_after = bytes;
  Ended = Ended;
}

-- 16777217 bytes are too many, and one fewer aren't
abbrev pub OneByteTooMany : Type 0
OneByteTooMany = ((bytes : List ℕ) → length bytes ≡ 16777217 → GaveTooMany (input_that_gave bytes ⊥ 0))
    × ((bytes : List ℕ) → length bytes ≡ 16777216 → GaveTooMany (input_that_gave bytes ⊥ 0) → ⊥)

-- there is no lane 9
abbrev pub RefusedRow : Type 0
RefusedRow = EndsUnread (input_that_gave (codes "9,lapse,1,2020-01-01") (Unit {0}) 0)
    (output_with 0 [] (codes "badscript,1,1" ++ 10 ∷ [])) BadScript

-- a fault of the input, and none
abbrev pub FailedInput : Type 0
FailedInput = EndsUnread (input_that_gave (codes "1,tr") ⊥ 1) (output_with 0 [] (codes "readfault" ++ 10 ∷ [])) ReadFault
    × (EndsUnread (input_that_gave (codes "1,tr") ⊥ 0) (output_with 0 [] (codes "readfault" ++ 10 ∷ [])) ReadFault → ⊥)

-- pieces are put together from the first one on
abbrev pub ShownInOrder : Type 0
ShownInOrder = taken_bytes ((record { bytes = codes "cd"; since = 7 }) ∷ (record { bytes = codes "ab"; since = 4 }) ∷ []) ≡ codes "abcd"

abbrev pub two_texts : List (List ℕ)
two_texts = codes "ab" ∷ codes "cd" ∷ []

-- If memory was refused for the second of two lines and the reports, the first line was written. That isn't so if a
-- part of the second was written, or the output had a fault.
abbrev pub StoppedShort : Type 0
StoppedShort = WroteUpTo (output_with 0 [] (codes "ab")) two_texts (codes "e")
    × WroteUpTo (output_with 0 [] (codes "abcd")) two_texts (codes "e")
    × (WroteUpTo (output_with 0 [] (codes "abc")) two_texts (codes "e") → ⊥)
    × (WroteUpTo (output_with 1 [] (codes "ab")) two_texts (codes "e") → ⊥)

-- Worked valuations of a journal without commands, of an empty file, and of positions
use Rattle.std.specs.Prelude.{◌≡◌, [], ◌∷◌, ◌++◌, codes, pos}
use Rattle.valuing_modes.specs.Names.{Ghosts, HoldsStill, Now, Position, Stream, WroteAll, WroteLine, Terminal, Mean, Deficiency}
use Rattle.program_endings.specs.Worked.{output_with}
use Rattle.valuing_modes.specs.Valuing.{IsBeyond, IsValuation, position_of}
pub mod Files
pub mod Valued

abbrev pub PositionsAsked : Type 0
PositionsAsked = (position_of Now 7 ≡ 7) × (position_of (Position 2) 7 ≡ 2) × (position_of (Position 9) 7 ≡ 9)

-- no policies are valued, and no basis is needed for that
abbrev pub NobodyValued : Type 0
NobodyValued = IsValuation [] (pos 18628) Now Terminal [] (λ text.
    text ≡ codes "0,value,2021-01-01,0,0" ++ (10 ∷ []) ++ codes "total,0.00,0.00,0" ++ 10 ∷ [])
    × IsValuation [] (pos 18628) Now Mean [] (λ text.
    text ≡ codes "0,value,2021-01-01,0,0,mean" ++ (10 ∷ []) ++ codes "total,0.00,0.00,0" ++ 10 ∷ [])
    × IsValuation [] (pos 18628) Now Deficiency [] (λ text.
    text ≡ codes "0,value,2021-01-01,0,0,deficiency" ++ (10 ∷ []) ++ codes "total,0.00,0.00,0.00,0.00,0" ++ 10 ∷ [])

-- three commands are asked for, and there are none
abbrev pub AheadOfNone : Type 0
AheadOfNone = IsBeyond [] (Position 3) (output_with 0 [] (codes "refused,ahead,0" ++ 10 ∷ []))
    × (IsBeyond [] (Position 3) (output_with 0 [] (codes "refused,ahead,3" ++ 10 ∷ [])) → ⊥)
    × (IsBeyond [] (Position 0) (output_with 0 [] (codes "refused,ahead,0" ++ 10 ∷ [])) → ⊥)
    × (IsBeyond [] Now (output_with 0 [] (codes "refused,ahead,0" ++ 10 ∷ [])) → ⊥)

-- over any disk: an empty file has no policies to value
abbrev pub ValuesAnEmptyFile : {D : Type 0} → Ghosts D → Type 0
ValuesAnEmptyFile {D} g = (old new : D) (output : Stream) → g.honest new → g.reads old ≡ []
    → HoldsStill g old new (λ commands. IsValuation commands (pos 18628) Now Terminal [] (WroteAll output))
    → WroteAll output (codes "0,value,2021-01-01,0,0" ++ (10 ∷ []) ++ codes "total,0.00,0.00,0" ++ 10 ∷ [])

-- and if more commands are asked for, the line says that it has none
abbrev pub IsAheadOfAnEmptyFile : {D : Type 0} → Ghosts D → Type 0
IsAheadOfAnEmptyFile {D} g = (old new : D) (output : Stream) → g.honest new → g.reads old ≡ []
    → HoldsStill g old new (λ commands. IsBeyond commands (Position 3) output) → WroteLine output (codes "refused,ahead,0")

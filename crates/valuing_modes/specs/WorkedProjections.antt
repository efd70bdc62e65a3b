-- Worked projections: of a journal without commands, and of an empty file
use Rattle.std.specs.Prelude.{◌≡◌, ℕ, List, [], ◌∷◌, ◌++◌, codes, pos}
use Rattle.valuing_modes.specs.Names.{Ghosts, Done, Ahead, Shelving, Stream, WroteAll}
use Rattle.valuing_modes.specs.Projecting.{EndsProject, IsProjectionText}

-- two years from 2020-12-31 on in which nobody pays and nobody is paid
abbrev pub nobodys_text : List ℕ
nobodys_text = codes "project,2020-12-31,0,0,2" ++ (10 ∷ []) ++ codes "year,0,0.00,0.00,0.00,0.00,0.00,0.00" ++ (10 ∷ [])
    ++ codes "year,1,0.00,0.00,0.00,0.00,0.00,0.00" ++ (10 ∷ []) ++ codes "unvalued,0" ++ 10 ∷ []

-- there is no need of a basis for them
abbrev pub NobodyProjected : Type 0
NobodyProjected = IsProjectionText [] (pos 18627) 2 [] (λ text. text ≡ nobodys_text)

-- over any disk and with any basis on the shelf: if an empty file is projected, this text was written
abbrev pub ProjectsAnEmptyFile : {D : Type 0} → Ghosts D → Shelving → Type 0
ProjectsAnEmptyFile {D} g shelf = (old new : D) (name : List ℕ) (output : Stream) → g.honest new → g.reads old ≡ []
    → EndsProject g old new (pos 18627) 2 name shelf output Done → WroteAll output nobodys_text

-- and no file has too few commands for it
abbrev pub IsNeverAhead : {D : Type 0} → Ghosts D → Shelving → Type 0
IsNeverAhead {D} g shelf = (old new : D) (name : List ℕ) (output : Stream)
    → EndsProject g old new (pos 18627) 2 name shelf output Ahead → ⊥

-- What is safe of a run by the time that a line of it is shown
use Rattle.std.specs.Prelude.{◌≡◌, ◌≢◌, ℕ, ◌+◌, ◌<◌, List, [], ◌∷◌, ◌++◌, length, take}
use Rattle.script_run.specs.Names.{concat, TakenPiece, taken_bytes, Ghosts, Command, Entry, accepted_of, AnsweredLine}

-- Told once safe. Of the pieces that the output took, newest first, each that reaches past where the text of a line begins
-- was handed on at a moment of the disk since which whatever a crash leaves opens to the commands from before, those that were
-- accepted up to that line's turn, and perhaps more. Nothing is said of the lines before the first command is accepted.
abbrev pub AreSafeWhenShown : {D : Type 0} → Ghosts D → (List ℕ → List Command → Type 0) → D → List Command → List Entry
    → List AnsweredLine → List (List ℕ) → List TakenPiece → Type 0
AreSafeWhenShown g Opens new commands history lines texts pieces =
    (later earlier : List TakenPiece) (piece : TakenPiece) → pieces ≡ later ++ piece ∷ earlier
    → (before after : List AnsweredLine) (line : AnsweredLine) → lines ≡ before ++ line ∷ after
    → accepted_of (take (line.first.0 + 1) history) ≢ []
    → length (concat (take (length before) texts)) < length (taken_bytes (piece ∷ earlier))
    → (image : List ℕ) → g.left_since new piece.since image
    → (more : List Command) × Opens image (commands ++ accepted_of (take (line.first.0 + 1) history) ++ more)

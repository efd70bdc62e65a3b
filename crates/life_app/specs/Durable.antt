-- Durability, on bytes and the disk alone: what is told to be accepted stays
use Rattle.std.specs.Prelude.{◌≡◌, ◌⊎◌, ℕ, ◌+◌, ◌<◌, ◌^◌, List, [], ◌∷◌, ◌++◌, codes, decimal, length, map}
use Rattle.life_app.specs.Names.{Command, Ghosts, TakenPiece, id_of}
use Rattle.outside_io.specs.Streams.{taken_bytes}
use Rattle.policy_types.specs.Words.{kind_word}
use Rattle.posting_journal.specs.Files.{IsJournal}
use Rattle.record_codec.specs.Spelling.{spelling_of}

-- the line that tells a lane that its posting was accepted, as command k of the journal
abbrev pub accepted_line : ℕ → Command → ℕ → List ℕ
accepted_line lane command k =
    decimal lane ++ 44 ∷ kind_word command ++ 44 ∷ decimal (id_of command) ++ codes ",accepted," ++ decimal k ++ 10 ∷ []

-- it is empty, or ends with a line feed
abbrev pub AreWholeLines : List ℕ → Type 0
AreWholeLines bytes = (bytes ≡ []) ⊎ ((front : List ℕ) × (bytes ≡ front ++ 10 ∷ []))

-- the line stands in the bytes, at their beginning or behind a line feed
abbrev pub HasWholeLine : List ℕ → List ℕ → Type 0
HasWholeLine bytes line = (before : List ℕ) × ((after : List ℕ) × (bytes ≡ before ++ line ++ after) × AreWholeLines before)

-- the file is the journal whose records spell these commands
abbrev pub SpellsCommands : List ℕ → List Command → Type 0
SpellsCommands image commands = IsJournal image (map spelling_of commands)

-- it has at least k commands, of which the k-th is of this kind and number
pub record OpensWith (Opens : List ℕ → List Command → Type 0) (image : List ℕ) (k : ℕ) (named : Command) : Type 0 where
  pub earlier : List Command
  pub command : Command
  pub later : List Command
  pub opens : Opens image (earlier ++ command ∷ later)
  pub place : k ≡ length earlier + 1
  pub kind : kind_word command ≡ kind_word named
  pub id : id_of command ≡ id_of named

-- Of the pieces that the output took, newest first: where those up to one have an accepted line, whatever a crash leaves from
-- the moment on by which that piece was handed over opens to at least so many commands, the last of these of that kind and number.
abbrev pub IsDurable : {D : Type 0} → Ghosts D → (List ℕ → List Command → Type 0) → D → List TakenPiece → Type 0
IsDurable g Opens new pieces = (later earlier : List TakenPiece) (piece : TakenPiece) → pieces ≡ later ++ piece ∷ earlier
    → (lane k : ℕ) (named : Command) → k < 2 ^ 64 → id_of named < 2 ^ 64
    → HasWholeLine (taken_bytes (piece ∷ earlier)) (accepted_line lane named k)
    → (image : List ℕ) → g.left_since new piece.since image → OpensWith Opens image k named

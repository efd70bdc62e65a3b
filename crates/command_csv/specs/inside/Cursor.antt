-- A row that is read field by field
use Rattle.std.specs.Prelude.{◌≡◌, ◌≢◌, ℕ, ◌+◌, List, [], ◌∷◌, ◌++◌, length, drop, take}
use Rattle.command_csv.specs.Names.{fields_of, Line}
use Rattle.command_csv.specs.declared.fields.LineFields.{LineFields}
use Rattle.command_csv.specs.declared.kind.Kind.{Kind}
use Rattle.command_csv.specs.declared.row.ClerkLine.{ClerkLine}
use Rattle.command_csv.specs.Reads.{IsScriptLine}
use Rattle.command_csv.specs.Spelling.{line_fields}
use Rattle.command_csv.specs.inside.Words.{IsLineRow, MayStandBehind}
use Rattle.command_csv.specs.inside.Forms.{StopsAfter, kind_spelling}

-- the fields that weren't asked for yet
abbrev pub left_of : LineFields → List (List ℕ)
left_of fields = drop fields.asked (fields_of fields.row.now)

-- the next field was asked for: it is this text, which fits
pub record Took (Fits : Type 0) (text : List ℕ) (old new : LineFields) : Type 0 where
  pub fits : Fits
  pub spelled : left_of old ≡ text ∷ left_of new
  pub counted : new.asked ≡ old.asked + 1

-- the next field was asked for: it is missing, or is the text of nothing that fits
pub record Missed {X : Type 0} (Fits : X → Type 0) (text_of : X → List ℕ) (old new : LineFields) : Type 0 where
  pub none : (x : X) → Fits x → take 1 (left_of old) ≢ text_of x ∷ []
  pub counted : new.asked ≡ old.asked + 1

-- the field that was asked for last is the first that doesn't fit the form
pub record StopsIn (Form : List (List ℕ) → Type 0) (old new : LineFields) : Type 0 where
  pub fitting : ℕ
  pub number : new.asked ≡ old.asked + fitting + 1
  pub bad : StopsAfter Form (left_of old) fitting

-- the fields that were asked for are those of a valid line of the kind, after the kind's word
pub record HoldsLine (kind : Kind) (old new : LineFields) (line : Line) : Type 0 where
  pub right : IsScriptLine line
  pub spelled : kind_spelling kind ∷ left_of old ≡ line_fields line ++ left_of new
  pub counted : new.asked ≡ length (line_fields line) + 1

-- the fields are the row of a line that may stand after so many valuations
pub record IsNextRow (valued : ℕ) (fields : List (List ℕ)) (entry : ClerkLine) : Type 0 where
  pub is : IsLineRow fields entry
  pub room : MayStandBehind valued entry.line

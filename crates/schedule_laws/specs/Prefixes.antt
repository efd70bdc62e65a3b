-- What a caller has seen of a legal history is legal
use Rattle.std.specs.Prelude.{◌≡◌, List, ◌++◌}
use Rattle.schedule_laws.specs.Names.{Entry, Opening, IsLegal, accepted_of}

-- the whole begins with the prefix
abbrev pub IsFrontOf : {X : Type 0} → List X → List X → Type 0
IsFrontOf {X} front whole = (rest : List X) × (whole ≡ front ++ rest)

-- a prefix of a legal history is legal, and its accepted commands are a prefix of the history's
abbrev pub PrefixLaw : Type 0
PrefixLaw = (opening : Opening) (seen history : List Entry) → IsFrontOf seen history → IsLegal opening history
    → IsLegal opening seen × IsFrontOf (accepted_of seen) (accepted_of history)

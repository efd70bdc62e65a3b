-- The line that reports a bad file.
use Rattle.std.specs.Prelude.{ℕ, List, [], ◌∷◌, codes, decimal}
use Rattle.text_lines.specs.Lines.{line_of}
use Rattle.basis_shelf.specs.declared.fault.BadBasis.{BadBasis}
use Rattle.basis_shelf.specs.declared.fault.BasisWord.{BasisWord}
use Rattle.basis_shelf.specs.declared.fault.BasisWord.TheVariants.{Absent, TooLong, BadRow, NotRising, TooManyRows, NotDocument, NoTable, Scaled, BadAge, AgeGap, BadRate, BadDuration, NoUltimate, UltimateGap}

-- the word that says what is wrong with a file
abbrev pub basis_word : BasisWord → List ℕ
basis_word Absent = codes "absent"
basis_word TooLong = codes "toolong"
basis_word BadRow = codes "badrow"
basis_word NotRising = codes "notrising"
basis_word TooManyRows = codes "toomanyrows"
basis_word NotDocument = codes "notdocument"
basis_word NoTable = codes "notable"
basis_word Scaled = codes "scaled"
basis_word BadAge = codes "badage"
basis_word AgeGap = codes "agegap"
basis_word BadRate = codes "badrate"
basis_word BadDuration = codes "badduration"
basis_word NoUltimate = codes "noultimate"
basis_word UltimateGap = codes "ultimategap"

-- the file's name, the place and the word
unfoldable pub bad_basis_text : BadBasis → List ℕ
bad_basis_text bad = line_of (codes "badbasis") (bad.name ∷ decimal bad.place ∷ basis_word bad.word ∷ [])

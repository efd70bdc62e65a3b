-- The result for a basis file's name.
use Rattle.std.specs.Prelude.{◌≡◌, ℕ, ⊤, List, Option, Result, Ok, Err}
use Rattle.basis_book.specs.Dated.{Dated}
use Rattle.basis_shelf.specs.declared.fault.BadBasis.{BadBasis}
use Rattle.basis_shelf.specs.declared.fault.NoBasis.{NoBasis}
use Rattle.basis_shelf.specs.declared.fault.NoBasis.TheVariants.{Bad, ReadFault, NoMemory}
use Rattle.basis_shelf.specs.Bases.{IsBasis}
use Rattle.basis_shelf.specs.FirstBad.{IsFirstBadFile}

-- the only result for a name, if neither the shelf fails nor memory is refused
abbrev pub IsBasisAnswer : (List ℕ → Option (List ℕ)) → List ℕ → Result (List Dated) BadBasis → Type 0
IsBasisAnswer files name (Ok entries) = IsBasis files name entries
IsBasisAnswer files name (Err bad) = IsFirstBadFile files name bad

-- this result is returned, unless the shelf failed or memory was refused
abbrev pub GivesBasis : Result (List Dated) NoBasis → Result (List Dated) BadBasis → Type 0
GivesBasis (Ok entries) answer = answer ≡ Ok entries
GivesBasis (Err (Bad bad)) answer = answer ≡ Err bad
GivesBasis (Err ReadFault) answer = ⊤
GivesBasis (Err (NoMemory lack)) answer = ⊤

-- this is true of a bad file
abbrev pub IfBad : (BadBasis → Type 0) → NoBasis → Type 0
IfBad Fact (Bad bad) = Fact bad
IfBad Fact ReadFault = ⊤
IfBad Fact (NoMemory lack) = ⊤

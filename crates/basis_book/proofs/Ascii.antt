-- A name is text.
use Rattle.basis_book.proofs.Names.{ℕ, ◌<◌, inl, inr, List, length, get_or, arith, get_or_past}
use Rattle.std.specs.Str.{IsUtf8}
use Rattle.std.proofs.lemmas.Str.{IsUtf8-from_ascii}
use Rattle.std.proofs.lemmas.Bool.{cases_lt}
use Rattle.basis_book.specs.Name.{IsName, IsNameByte}

small : (byte : ℕ) → IsNameByte byte → byte < 128
small byte h = grind arith

pub IsUtf8-from_name : (bytes : List ℕ) → IsName bytes → IsUtf8 bytes
IsUtf8-from_name bytes h = IsUtf8-from_ascii bytes (λ i. elim (cases_lt i (length bytes)) [
  | inl within ↦ small (get_or bytes i 0) (h.each i 0 within)
  | inr past ↦ let none = get_or_past bytes i 0 past in omega arith
])

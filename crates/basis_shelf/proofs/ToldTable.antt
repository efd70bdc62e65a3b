-- What is reported of a table file is what is wrong with it.
use Rattle.basis_shelf.proofs.Names.{◌≡◌, ℕ, List, Option, Err, refl, sym, subst, TableKind, TableFault, Unless, IsAnyAnswer, BadBasis, IfBad, IsFile, IsNoTable, IsBadTable, IsBadTableFile, TellsTable, word_of}
use Rattle.xtbml_subset.specs.declared.fault.TableKind.TheVariants as kind
use Rattle.xtbml_subset.specs.declared.fault.TableFault.TheVariants as table
use Rattle.basis_shelf.specs.declared.fault.NoBasis.{NoBasis}
use Rattle.basis_shelf.specs.declared.fault.NoBasis.TheVariants.{Bad, ReadFault, NoMemory}
use Rattle.basis_shelf.proofs.NeverSelect.{told_fault}

-- the word of a fault, at its place
pub bad_table : (files : List ℕ → Option (List ℕ)) (name : List ℕ) (number place : ℕ) (what : TableKind) → IsNoTable files name place what
    → IsBadTable files name number (word_of what) place
bad_table files name number place kind.NotDocument h = h
bad_table files name number place kind.NoTable h = h
bad_table files name number place kind.Select h = absurd (told_fault h.0 (table.Bad place kind.Select) h.2)
bad_table files name number place kind.Scaled h = h
bad_table files name number place kind.BadAge h = h
bad_table files name number place kind.AgeGap h = h
bad_table files name number place kind.BadRate h = h
bad_table files name number place kind.BadDuration h = h
bad_table files name number place kind.NoUltimate h = h
bad_table files name number place kind.UltimateGap h = h

as_told : (files : List ℕ → Option (List ℕ)) (name : List ℕ) (number place : ℕ) (what : TableKind) (bad : BadBasis) → IsNoTable files name place what
    → bad ≡ record { name = name; place = place; word = word_of what } → IsBadTableFile files name number bad
as_told files name number place what bad h is =
    subst (λ (b : BadBasis). IsBadTableFile files name number b) (sym is) (refl, bad_table files name number place what h)

pub told_table : (files : List ℕ → Option (List ℕ)) (name bytes : List ℕ) (number : ℕ) (fault : TableFault) (told : NoBasis) → IsFile files name bytes
    → Unless fault (IsAnyAnswer bytes (Err fault)) → TellsTable name fault told → IfBad (IsBadTableFile files name number) told
told_table files name bytes number (table.Bad at what) (Bad bad) file is tells = as_told files name number at what bad (bytes, file, is) tells
told_table files name bytes number (table.Bad at what) ReadFault file is tells = tt
told_table files name bytes number (table.Bad at what) (NoMemory lack) file is tells = tt
told_table files name bytes number (table.NoMemory lack) told file is tells = subst (λ (n : NoBasis). IfBad (IsBadTableFile files name number) n) (sym tells) tt

-- How a mode ends without the basis that it needs: the line that says why
use Rattle.std.specs.Prelude.{◌≡◌, ℕ, List, codes}
use Rattle.program_endings.specs.Names.{Rose, Files}
use Rattle.basis_shelf.specs.FirstBad.{IsFirstBadFile}
use Rattle.basis_shelf.specs.Lines.{bad_basis_text}
use Rattle.basis_shelf.specs.declared.fault.BadBasis.{BadBasis}
use Rattle.basis_shelf.specs.declared.fault.NoBasis.{NoBasis}
use Rattle.basis_shelf.specs.declared.fault.NoBasis.TheVariants.{Bad, ReadFault as ShelfFailed, NoMemory as NoRoom}
use Rattle.program_endings.specs.Writing.{Shelving, Stream, WroteLine, WroteOrFailed}
use Rattle.program_endings.specs.declared.ending.Ending.{Ending}
use Rattle.program_endings.specs.declared.ending.Ending.TheVariants.{BadBasis as NoRightBasis, NoMemory, ReadFault}

-- the line that says why there is no basis
abbrev pub SaysNoBasis : NoBasis → Stream → Ending → Type 0
SaysNoBasis (Bad bad) output NoRightBasis = WroteOrFailed output (bad_basis_text bad)
SaysNoBasis (Bad bad) output (NoMemory lack) = WroteLine output (codes "nomemory")
SaysNoBasis ShelfFailed output ReadFault = WroteLine output (codes "readfault")
SaysNoBasis (NoRoom lack) output (NoMemory other_lack) = WroteLine output (codes "nomemory")
SaysNoBasis _ _ _ = ⊥

-- how a mode ends without the basis that it needs: the first bad file is named, or the shelf failed, or memory was refused
abbrev pub EndsNoBasis : List ℕ → Shelving → Stream → Ending → Type 0
EndsNoBasis name shelf output NoRightBasis =
    (bad : BadBasis) × ((files : Files) → shelf.Agrees files → IsFirstBadFile files name bad) × WroteOrFailed output (bad_basis_text bad)
EndsNoBasis name shelf output ReadFault =
    Rose shelf.faults_before shelf.faults_after × WroteLine output (codes "readfault")
EndsNoBasis name shelf output (NoMemory lack) = WroteLine output (codes "nomemory")
EndsNoBasis _ _ _ _ = ⊥

-- this bad file is named
abbrev pub SaysBadFile : BadBasis → Stream → ℕ → Type 0
SaysBadFile bad output status = (status ≡ 4) × WroteOrFailed output (bad_basis_text bad)

-- Worked table files: a table of three rates, and a file of each fault with its place. Places were counted by hand
use Rattle.std.specs.Prelude.{ℕ, List, [], ◌∷◌, codes, Err}
use Rattle.xtbml_subset.specs.declared.fault.TableKind.{TableKind}
use Rattle.xtbml_subset.specs.declared.fault.TableKind.TheVariants.{NotDocument, NoTable, Select, Scaled, BadAge, AgeGap, BadRate}
use Rattle.xtbml_subset.specs.declared.fault.TableFault.TheVariants.{Bad}
use Rattle.xtbml_subset.specs.Answers.{IsTableAnswer, SpellsTable}

-- a declaration, a comment, white space, an age with a leading zero, and an element that is skipped
abbrev pub ThreeRates : Type 0
ThreeRates = SpellsTable
    (codes "<?xml v?><!-- - --><XTbML><Table><Values><Axis a=''><Y t='0'>0.1</Y> <Y t='01' t='9'> .5 </Y><Z/><Y t='2'>1</Y></Axis></Values></Table></XTbML>\n")
    (record { first_age = 0; rates = 100000000 ∷ 500000000 ∷ 1000000000 ∷ [] })

-- the file is refused so, at this place
abbrev pub IsRefusedAt : List ℕ → ℕ → TableKind → Type 0
IsRefusedAt bytes at kind = IsTableAnswer bytes (Err (Bad at kind))

-- an empty file, an end tag of another name, a second root, text after the root, an end that lacks
abbrev pub NoDocuments : Type 0
NoDocuments = IsRefusedAt [] 0 NotDocument × IsRefusedAt (codes "<XTbML></Table>") 7 NotDocument
    × IsRefusedAt (codes "<A/> <B/>") 5 NotDocument × IsRefusedAt (codes "<A></A>x") 7 NotDocument
    × IsRefusedAt (codes "<A><B/>") 7 NotDocument

-- a path that ends at the root, whose name may be wrong, and one that ends at the axis
abbrev pub NoTables : Type 0
NoTables = IsRefusedAt (codes "<XTbML/>") 0 NoTable × IsRefusedAt (codes "<A><Table/></A>") 0 NoTable
    × IsRefusedAt (codes "<XTbML><Table><Values><Axis/></Values></Table></XTbML>") 22 NoTable

-- an axis in the axis, and a factor that is no text
abbrev pub OtherTables : Type 0
OtherTables = IsRefusedAt (codes "<XTbML><Table><Values><Axis><Axis t='0'/></Axis></Values></Table></XTbML>") 28 Select
    × IsRefusedAt (codes "<XTbML><Table><MetaData><ScalingFactor><a/></ScalingFactor></MetaData><Values><Axis><Y t='0'>1</Y></Axis></Values></Table></XTbML>")
    24 Scaled

-- no age, an age of 131, a gap, and a rate that is no text
abbrev pub BadRates : Type 0
BadRates = IsRefusedAt (codes "<XTbML><Table><Values><Axis><Y>0.1</Y></Axis></Values></Table></XTbML>") 28 BadAge
    × IsRefusedAt (codes "<XTbML><Table><Values><Axis><Y t='131'>0.1</Y></Axis></Values></Table></XTbML>") 28 BadAge
    × IsRefusedAt (codes "<XTbML><Table><Values><Axis><Y t='0'>0.1</Y><Y t='2'>1</Y></Axis></Values></Table></XTbML>") 44 AgeGap
    × IsRefusedAt (codes "<XTbML><Table><Values><Axis><Y t='0'><a/></Y></Axis></Values></Table></XTbML>") 28 BadRate

-- Worked files of select tables: one that is read, and one for each fault that only they have. Places were counted by
-- hand
use Rattle.std.specs.Prelude.{ℕ, List, [], ◌∷◌, codes, Err}
use Rattle.select_rates.specs.declared.any.AnyTable.TheVariants.{Select}
use Rattle.xtbml_subset.specs.declared.fault.TableKind.{TableKind}
use Rattle.xtbml_subset.specs.declared.fault.TableKind.TheVariants.{BadDuration, NoUltimate, UltimateGap}
use Rattle.xtbml_subset.specs.declared.fault.TableFault.TheVariants.{Bad}
use Rattle.xtbml_subset.specs.AnyChecks.{IsAnyAnswer, SpellsAny}

-- issue age 3 with two select rates, after them a `Y` without one, and the ultimate rate of age 5
abbrev pub OneIssueAge : Type 0
OneIssueAge = SpellsAny
    (codes "<XTbML><Table><Values><Axis t='3'><Axis><Y t='1'>.5</Y><Y t='2'>1</Y><Y/></Axis></Axis></Values></Table><Table><Values><Axis><Y t='5'>0.1</Y></Axis></Values></Table></XTbML>")
    (Select (record { first_age = 3; rows = (500000000 ∷ 1000000000 ∷ []) ∷ []; ultimate = record { first_age = 5; rates = 100000000 ∷ [] } }))

-- the file is refused so, at this place
abbrev pub IsAnyRefusedAt : List ℕ → ℕ → TableKind → Type 0
IsAnyRefusedAt bytes at kind = IsAnyAnswer bytes (Err (Bad at kind))

-- no rate, a first duration of 2, no second table, and ultimate rates that begin a year late
abbrev pub SelectFaults : Type 0
SelectFaults = IsAnyRefusedAt (codes "<XTbML><Table><Values><Axis t='3'><Axis><Y> </Y></Axis></Axis></Values></Table></XTbML>") 22 BadDuration
    × IsAnyRefusedAt (codes "<XTbML><Table><Values><Axis><Axis t='3'><Y t='2'>.5</Y></Axis></Axis></Values></Table></XTbML>") 40 BadDuration
    × IsAnyRefusedAt (codes "<XTbML><Table><Values><Axis><Axis t='3'><Y t='0'>.5</Y></Axis></Axis></Values></Table></XTbML>") 7 NoUltimate
    × IsAnyRefusedAt (codes "<XTbML><Table><Values><Axis><Axis t='3'><Y t='0'>.5</Y></Axis></Axis></Values></Table><Table><Values><Axis><Y t='5'>1</Y></Axis></Values></Table></XTbML>") 28 UltimateGap

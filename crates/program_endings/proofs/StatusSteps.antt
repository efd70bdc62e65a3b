-- A status is that of one ending
use Rattle.program_endings.proofs.Names.{◌≡◌, ℕ, refl, ap, sym, ◌∙◌, Ending, Done, Usage, BadScript, BadBasis, BadJournal, InputFault, WriteFault, DiskFault, NoMemory, Ahead, status_of}
use Rattle.watcher_set.specs.Evidence.{a_lack}
use Rattle.std.specs.Prelude.{◌==◌, if◌then◌else◌}

abbrev ending_with : ℕ → Ending
ending_with status =
    if status == 0 then Done
    else if status == 2 then Usage
    else if status == 3 then BadScript
    else if status == 4 then BadBasis
    else if status == 5 then BadJournal
    else if status == 6 then InputFault
    else if status == 7 then WriteFault
    else if status == 8 then DiskFault
    else if status == 9 then (NoMemory a_lack)
    else Ahead

its_own : (ending : Ending) → ending_with (status_of ending) ≡ ending
its_own Done = refl
its_own Usage = refl
its_own BadScript = refl
its_own BadBasis = refl
its_own BadJournal = refl
its_own InputFault = refl
its_own WriteFault = refl
its_own DiskFault = refl
its_own (NoMemory lack) = refl
its_own Ahead = refl

-- a status is that of one ending
pub ending_at : (status : ℕ) (one ending : Ending) → status_of one ≡ status → status_of ending ≡ status → ending ≡ one
ending_at status one ending is same = sym (its_own ending) ∙ ap ending_with (same ∙ sym is) ∙ its_own one

-- What a watcher notes of the accepted commands, and the report that it gives of them
use Rattle.std.specs.Prelude.{◌≡◌, ◌⊎◌, ℕ, ◌<◌, Bool, true, false, ◌||◌, if◌then◌else◌, List, [], ◌∷◌, ◌++◌, length, map, take}
use Rattle.watcher_set.specs.Names.{Command, Report}

-- a watcher as it was handed in: the lists after which it is done, and its own number for a list
pub record Auditor : Type 0 where
  pub stops : List Command → Bool
  pub number : List Command → ℕ

-- the commands in order, up to and with the first after which the test of the list so far says done
abbrev pub noted_of : (List Command → Bool) → List Command → List Command
noted_of stops [] = []
noted_of stops (command ∷ later) =
    command ∷ (if stops (command ∷ []) then [] else noted_of (λ list. stops (command ∷ list)) later)

-- whether there is such a command among them
abbrev pub is_done : (List Command → Bool) → List Command → Bool
is_done stops [] = false
is_done stops (command ∷ later) = stops (command ∷ []) || is_done (λ list. stops (command ∷ list)) later

-- The same by places: what is noted is a beginning of the commands. The watcher is done after no shorter one except
-- the empty one, and it is done after what is noted, or no command is left
pub record IsNoted (stops : List Command → Bool) (commands noted : List Command) : Type 0 where
  pub rest : List Command
  pub begins : commands ≡ noted ++ rest
  pub goes_on : (count : ℕ) → 0 < count → count < length noted → stops (take count noted) ≡ false
  pub ends : ((0 < length noted) × (stops noted ≡ true)) ⊎ (rest ≡ [])

-- the report that it gives of what it noted
abbrev pub report_of : List Command → Auditor → Report
report_of commands auditor = record {
  seen = length (noted_of auditor.stops commands);
  tally = auditor.number (noted_of auditor.stops commands);
}

-- the reports of all of them, in order
abbrev pub reports_of : List Auditor → List Command → List Report
reports_of auditors commands = map (report_of commands) auditors

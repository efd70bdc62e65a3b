-- What the calls of one watcher do at its place
use Rattle.std.specs.Prelude.{◌≡◌, ℕ, ◌+◌, ◌<◌, ◌≤◌, true, false, List, [], ◌∷◌, ◌++◌, length}
use Rattle.watcher_set.specs.Names.{Command, Report, most_commands, Ghosts}
use Rattle.watcher_set.specs.declared.place.Place.{Place}
use Rattle.watcher_set.specs.declared.place.Place.TheVariants.{Listening, Reported}

module _ {B : Type 0} (g : Ghosts B) where
  -- if it goes on, it has noted fewer commands than there may be, and this is the position after the last of them
  abbrev pub MayBeTold : ℕ → Place B → Type 0
  MayBeTold position (Listening watcher) =
      (length (g.noted watcher) < most_commands) × (1 ≤ position)
      × (1 ≤ length (g.noted watcher) → position ≡ g.last watcher + 1)
  MayBeTold position (Reported report) = Unit {0}

  -- its test and its number stay
  pub record SameAuditor (old new : B) : Type 0 where
    pub stops : (list : List Command) → g.stops new list ≡ g.stops old list
    pub number : (list : List Command) → g.number new list ≡ g.number old list

  -- nothing changes but the capacity
  abbrev pub Stays : Place B → Place B → Type 0
  Stays (Listening old) (Listening new) =
      (g.noted new ≡ g.noted old) × (g.last new ≡ g.last old) × SameAuditor old new
  Stays (Reported old) (Reported new) = new ≡ old
  Stays _ _ = ⊥

  -- the report that it gives of this list
  abbrev pub report_by : B → List Command → Report
  report_by watcher list = record { seen = length list; tally = g.number watcher list }

  -- it notes the command at its position; if it is then done, it leaves its report
  abbrev pub Hears : ℕ → Command → Place B → Place B → Type 0
  Hears position command (Listening old) (Listening new) =
      (g.noted new ≡ g.noted old ++ command ∷ []) × (g.last new ≡ position)
      × (g.stops old (g.noted old ++ command ∷ []) ≡ false) × SameAuditor old new
  Hears position command (Listening old) (Reported report) =
      (g.stops old (g.noted old ++ command ∷ []) ≡ true) × (report ≡ report_by old (g.noted old ++ command ∷ []))
  Hears position command (Reported old) (Reported new) = new ≡ old
  Hears position command (Reported old) (Listening new) = ⊥

  -- the report that was kept, or the one that the watcher gives now
  abbrev pub report_at : Place B → Report
  report_at (Listening watcher) = report_by watcher (g.noted watcher)
  report_at (Reported report) = report

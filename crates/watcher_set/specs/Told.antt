-- What has become of the watchers that were handed in, each at its place
use Rattle.std.specs.Prelude.{◌≡◌, ◌⊎◌, ℕ, ◌+◌, ◌≤◌, true, false, List, [], ◌∷◌, length}
use Rattle.watcher_set.specs.Names.{AllByRecursion, AllZip, Command, Report, Ghosts}
use Rattle.watcher_set.specs.Noted.{Auditor, is_done, report_of}
use Rattle.watcher_set.specs.declared.place.Place.{Place}
use Rattle.watcher_set.specs.declared.place.Place.TheVariants.{Listening, Reported}

module _ {B : Type 0} (g : Ghosts B) where
  -- a watcher's test and its number, as they are now
  abbrev pub auditor_of : B → Auditor
  auditor_of watcher = record { stops = g.stops watcher; number = g.number watcher }

  -- A watcher that goes on has noted all these commands, whose positions are directly after so many others, and knows
  -- the position of the last. It was done after none of them; its test and its number are what they were
  pub record Listens (auditor : Auditor) (before : ℕ) (commands : List Command) (watcher : B) : Type 0 where
    pub noted : g.noted watcher ≡ commands
    pub last : 1 ≤ length commands → g.last watcher ≡ before + length commands
    pub goes_on : is_done auditor.stops commands ≡ false
    pub stops : (list : List Command) → g.stops watcher list ≡ auditor.stops list
    pub number : (list : List Command) → g.number watcher list ≡ auditor.number list

  -- a watcher that was done is gone, and left the report of what it noted until then
  pub record HasReported (auditor : Auditor) (commands : List Command) (report : Report) : Type 0 where
    pub done : is_done auditor.stops commands ≡ true
    pub left : report ≡ report_of commands auditor

  abbrev pub HasHeard : ℕ → List Command → Auditor → Place B → Type 0
  HasHeard before commands auditor (Listening watcher) = Listens auditor before commands watcher
  HasHeard before commands auditor (Reported report) = HasReported auditor commands report

  -- all of them, each at its own place
  pub record AreTold (before : ℕ) (commands : List Command) (auditors : List Auditor) (places : List (Place B)) : Type 0
    where
      pub each : AllZip (HasHeard before commands) auditors places

  -- if it goes on, it has capacity for one more command
  abbrev pub HasSpareRoom : Place B → Type 0
  HasSpareRoom (Listening watcher) = 1 ≤ g.spare watcher
  HasSpareRoom (Reported report) = Unit {0}

  -- it goes on, and has no capacity for a command
  abbrev pub IsFull : Place B → Type 0
  IsFull (Listening watcher) = g.spare watcher ≡ 0
  IsFull (Reported report) = ⊥

  -- one of them is full
  abbrev pub HasFull : List (Place B) → Type 0
  HasFull [] = ⊥
  HasFull (place ∷ places) = IsFull place ⊎ HasFull places

  abbrev pub HaveRoom : List (Place B) → Type 0
  HaveRoom places = AllByRecursion HasSpareRoom places

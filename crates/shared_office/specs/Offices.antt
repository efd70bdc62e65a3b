-- The histories of an office that several callers share
use Rattle.std.specs.Prelude.{◌≤◌, List, Option, length}
use Rattle.shared_office.specs.Names.{AllByRecursion, Entry, IsValid, Opening, IsLegal, commands_after, MomentRing, most_commands}

-- what an office was opened on: its opening, the disk as it was handed in and as the office held it once it was open, and the
-- watchers and the outlet of moments as they were handed in
pub record OfficeOpening (D W : Type 0) : Type 0 where
  pub opening : Opening
  pub begun : D
  pub held : D
  pub watchers : W
  pub outlet : Option MomentRing

-- a history of the office: every reply is the one due; the accepted commands are valid, and not more than there may be
pub record IsOfficeHistory {D W : Type 0} (opened : OfficeOpening D W) (history : List Entry) : Type 0 where
  pub legal : IsLegal opened.opening history
  pub valid : AllByRecursion IsValid (commands_after opened.opening history)
  pub few : length (commands_after opened.opening history) ≤ most_commands

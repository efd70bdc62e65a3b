-- What watchers note and report of four commands, worked by hand. Day 18262 is 2020-01-01
use Rattle.std.specs.Prelude.{◌≡◌, ◌==◌, true, false, List, [], ◌∷◌, length, pos}
use Rattle.watcher_set.specs.Names.{Command, Issue, Premium, Reinstate, Settle}
use Rattle.policy_types.specs.declared.command.Plan.TheVariants.{Endowment}
use Rattle.watcher_set.specs.Limits.{most_watchers}
use Rattle.watcher_set.specs.Noted.{Auditor, noted_of, is_done, reports_of}
use Rattle.watcher_set.specs.Premiums.{premiums_of}

abbrev pub told_issue : Command
told_issue = Issue 7001 (pos 18262) Endowment 0 3 100000 40000

abbrev pub told_premium : Command
told_premium = Premium 7001 (pos 18262) 40000

-- 800.00 to put the policy in force again
abbrev pub told_reinstatement : Command
told_reinstatement = Reinstate 7001 (pos 18993) 80000

abbrev pub told_settlement : Command
told_settlement = Settle 7001 (pos 18993) 7

abbrev pub four_told : List Command
four_told = told_issue ∷ told_premium ∷ told_reinstatement ∷ told_settlement ∷ []

-- one that counts, and is done at its third command
abbrev pub up_to_three : Auditor
up_to_three = record { stops = λ list. length list == 3; number = length }

-- one that counts, and is done at its tenth
abbrev pub up_to_ten : Auditor
up_to_ten = record { stops = λ list. length list == 10; number = length }

-- one that adds up premiums, and is never done
abbrev pub of_premiums : Auditor
of_premiums = record { stops = λ _. false; number = premiums_of }

-- the third command is noted, and the fourth isn't
abbrev pub NotedToTheThird : Type 0
NotedToTheThird = (noted_of up_to_three.stops four_told ≡ told_issue ∷ told_premium ∷ told_reinstatement ∷ [])
    × (is_done up_to_three.stops four_told ≡ true)
    × (is_done up_to_three.stops (told_issue ∷ told_premium ∷ []) ≡ false)
    × (noted_of up_to_ten.stops four_told ≡ four_told)
    × (is_done up_to_ten.stops four_told ≡ false)
    × (noted_of up_to_three.stops [] ≡ [])

-- 400.00 and 800.00 are paid as premiums
abbrev pub ThreeReports : Type 0
ThreeReports = reports_of (up_to_three ∷ of_premiums ∷ up_to_ten ∷ []) four_told
    ≡ (record { seen = 3; tally = 3 }) ∷ (record { seen = 4; tally = 120000 }) ∷ (record { seen = 4; tally = 4 }) ∷ []

abbrev pub SixteenAuditors : Type 0
SixteenAuditors = most_watchers ≡ 16

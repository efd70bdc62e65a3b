-- The watchers of the shipped program
use Rattle.std.specs.Prelude.{◌==◌, false, List, [], ◌∷◌, length}
use Rattle.watcher_set.specs.Noted.{Auditor}
use Rattle.watcher_set.specs.Premiums.{premiums_of}

-- one counts commands, and is done at four million; the other adds up premiums, and is never done
abbrev pub shipped_auditors : List Auditor
shipped_auditors =
    (record { stops = λ commands. length commands == 4000000; number = λ commands. length commands })
    ∷ (record { stops = λ commands. false; number = λ commands. premiums_of commands }) ∷ []

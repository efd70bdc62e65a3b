use Rattle.journal_replay.proofs.replaying.replay_all.Given as goal

abbrev pub ghosts-replay_by : goal.ghosts-replay_by
ghosts-replay_by g a = record { name = a.blank.name; parts = 1 }

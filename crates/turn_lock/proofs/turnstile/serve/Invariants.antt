use Rattle.turn_lock.proofs.turnstile.serve.Given as goal

abbrev pub ghosts-give : goal.ghosts-give
ghosts-give g a = record { appended = g.C.Turn.entry a.asked.now.value a.caller a.answer.now }

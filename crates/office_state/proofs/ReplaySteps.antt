-- What a replay into the books states, and what the bytes show of the record at which one stops
use Rattle.office_state.proofs.Names.{◌≡◌, ℕ, ◌+◌, ◌<◌, List, [], ◌∷◌, ◌++◌, length, take, drop, get_or, None, add-one, refl, ap, subst, sym, ◌∙◌, take-append-drop, Ghosts, judge, IsJournal, count_of, Journal, BodiesHave, IsStoppedAt, Replays, Stops, bodies_of, Books, IsUnfollowed, commands_in, MakeJournal}
use Rattle.std.proofs.Math.Seq.{drop-cons}
use Rattle.journal_replay.specs.Keeping.{AreKept}
use Rattle.journal_replay.specs.declared.replaying.ReplayFault.{ReplayFault}
use Rattle.journal_replay.proofs.ReplaySteps.{Stops-wider, all_replayed}

module _ {D : Type 0} (g : Ghosts D) (journal : Journal D g) (now : D) where
  -- with every record replayed, the bodies are those of the books' commands
  pub bodies_replayed : (books : Books) → Replays (λ commands. commands_in books ≡ commands) journal now (count_of journal) []
      → BodiesHave journal now (λ bodies. bodies ≡ bodies_of (commands_in books))
  bodies_replayed books all bodies last honest stands =
      all_replayed (λ commands. commands_in books ≡ commands) journal now [] all bodies last honest stands refl ∙ ap bodies_of (sym all.kept)

  -- the books keep exactly what may be a journal
  pub books_stopped : (fault : ReplayFault)
      → Stops (AreKept (λ (books : Books) commands. commands_in books ≡ commands)) (λ commands command. judge commands command ≡ None) journal now [] fault
      → Stops MakeJournal (λ commands command. judge commands command ≡ None) journal now [] fault
  books_stopped fault =
      Stops-wider (AreKept (λ (books : Books) commands. commands_in books ≡ commands)) MakeJournal
      (λ commands command. judge commands command ≡ None)
      (λ commands kept. subst MakeJournal kept.1 (kept.0.kept.valid, kept.0.kept.accepted)) journal now [] fault

-- bodies in three parts
parts : (bodies : List (List ℕ)) (n : ℕ) → n < length bodies
    → bodies ≡ take n bodies ++ get_or bodies n [] ∷ drop (n + 1) bodies
parts bodies n within = rw (add-one, ← drop-cons bodies n []) (sym (take-append-drop n bodies))

-- if the bodies are those of a journal, it shows the record that stopped the replay
pub stopped_shown : (bytes : List ℕ) (bodies : List (List ℕ)) (n : ℕ) → IsJournal bytes bodies
    → IsStoppedAt MakeJournal (λ commands command. judge commands command ≡ None) n bodies → IsUnfollowed bytes n
stopped_shown bytes bodies n journal at = record {
  commands = at.commands;
  body = get_or bodies n [];
  rest = drop (n + 1) bodies;
  counted = at.counted;
  records = subst (λ b. IsJournal bytes b)
      (parts bodies n at.within ∙ ap (λ front. front ++ get_or bodies n [] ∷ drop (n + 1) bodies) at.front) journal;
  valid = at.kept.0;
  accepted = at.kept.1;
  none = at.none;
}

-- What a pin in its caller's hands says of the book
use Rattle.snapshot_value.proofs.Names.{◌≡◌, ℕ, ◌*◌, ◌≤◌, List, [], ◌∷◌, ◌++◌, length, map, take, drop, refl, sym, ap, ◌∙◌, subst, Some, slice_get, append-nil, arith, AllByRecursion, filter_map, length-map, length-take, most_commands, Policy, Entry, commands_after, floor_of, live_pin, policies_per_read, IsSound, Holding, PassFacts, TakesTurn, IsOfficeHistory, OfficeOpening, HoldsPin, Grows, HasReadPart, policies_at}
use Rattle.policy_types.specs.declared.command.Command.{Command}
use Rattle.policy_machine.specs.Book.{book, issue_id}
use Rattle.policy_machine.proofs.BookGrowth.{book-ids}
use Rattle.policy_machine.proofs.BookLemmas.{book-sound}
use Rattle.policy_machine.proofs.HistoryGrowth.{PinsHold-legal, slice_get-middle, take-commands_after}
use Rattle.schedule_laws.specs.PinnedReads.{book_at}
use Rattle.schedule_laws.proofs.ReadsTogether.{read_holds}
use Rattle.office_state.specs.Turning.{read_turn}
use Rattle.office_state.specs.declared.held.Held.{Held}
use Rattle.office_state.proofs.Fronts.{all-take}
use Rattle.office_state.proofs.BookSteps.{length-issues}
use Rattle.turn_lock.specs.History.{StartsWith}
use Rattle.shared_office.proofs.Holding.{live}
use Rattle.snapshot_value.proofs.Growth.{grows_one}

-- there are no more policies than commands
book_length : (commands : List Command) → length (book commands) ≤ length commands
book_length commands =
    let ids : length (map (λ (p : Policy). p.id) (book commands)) ≡ length (filter_map issue_id commands) = ap length (book-ids commands) in
    let same : length (map (λ (p : Policy). p.id) (book commands)) ≡ length (book commands) = length-map (book commands) (λ (p : Policy). p.id) in
    omega (arith, ids, same, length-issues commands)

module _ {D W : Type 0} where
  pub policies_by : (pass : Holding (OfficeOpening D W)) (opened : OfficeOpening D W) (position : ℕ) → pass.opening ≡ Some opened
      → policies_at pass position ≡ book_at opened.opening pass.seen position
  policies_by pass opened position is = rw is refl

  -- what is known of a pin that the pass holds
  pub record IsKnown (pass : Holding (OfficeOpening D W)) (pin : Held) : Type 0 where
    pub opened : OfficeOpening D W
    pub opening : pass.opening ≡ Some opened
    pub reached : pin.position ≤ length (commands_after opened.opening pass.seen)
    pub counted : length (policies_at pass pin.position) ≡ pin.policies
    pub few : pin.policies ≤ most_commands
    pub sound : AllByRecursion IsSound (policies_at pass pin.position)

  pub known : (pass : Holding (OfficeOpening D W)) (pin : Held) → PassFacts IsOfficeHistory pass → HoldsPin pass pin → IsKnown pass pin
  known pass pin facts holds = record {
    opened = opened;
    opening = facts.lawful.1;
    reached = there.1;
    counted = ap length by ∙ sym there.2;
    few =
        let policies = book_length (take pin.position commands) in
        omega (arith, there.2, policies, length-take pin.position commands, facts.lawful.2.few);
    sound = subst (AllByRecursion IsSound) (sym by)
        (book-sound (take pin.position commands) (all-take _ pin.position commands facts.lawful.2.valid));
  }
    where
      opened : OfficeOpening D W
      opened = facts.lawful.0

      commands : List Command
      commands = commands_after opened.opening pass.seen

      by : policies_at pass pin.position ≡ book_at opened.opening pass.seen pin.position
      by = policies_by pass opened pin.position facts.lawful.1

      is_live : live_pin pass.seen pin.number ≡ Some (pin.position, pin.policies)
      is_live =
          (live opened.opening pass.seen pass.seen pass.made pass.caller pin facts.lawful.2.legal ([], sym (append-nil pass.seen))
          facts.paged.0 holds).3

      there : (floor_of pass.seen ≤ pin.position) × (pin.position ≤ length commands) × (pin.policies ≡ length (book (take pin.position commands)))
      there = (PinsHold-legal opened.opening pass.seen facts.lawful.2.legal.due).pins_in pin.number pin.position pin.policies is_live

  -- they stay, whatever else the pass sees
  pub stays : (old new : Holding (OfficeOpening D W)) (pin : Held) → IsKnown old pin → new.opening ≡ old.opening
      → StartsWith new.seen old.seen → policies_at new pin.position ≡ policies_at old pin.position
  stays old new pin is same begins =
      policies_by new is.opened pin.position (same ∙ is.opening)
      ∙ ap (λ (seen : List Entry). book_at is.opened.opening seen pin.position) begins.1
      ∙ ap book (take-commands_after is.opened.opening old.seen begins.0 pin.position is.reached)
      ∙ sym (policies_by old is.opened pin.position is.opening)

  -- a read of the pin
  pub part_read : (turn k : ℕ) (part : List Policy) (old new : Holding (OfficeOpening D W)) (pin : Held) → 1 ≤ old.left
      → TakesTurn turn (read_turn old.caller pin.number (policies_per_read * k) part) old new
      → PassFacts IsOfficeHistory old → PassFacts IsOfficeHistory new → HoldsPin old pin → HoldsPin new pin
      → HasReadPart pin k part old new
  part_read turn k part old new pin some takes facts_old facts holds_old holds = record {
    read = (turn, entry);
    grows = grows;
    call = refl;
    stays = same;
    filled =
        read_holds facts.lawful.0.opening new.seen pin.number pin.position pin.policies (policies_per_read * k) entry facts.lawful.2.legal
        (_, holds.took, refl) (length (old.seen ++ takes.between), there) refl
        ∙ ap (λ policies. take policies_per_read (drop (policies_per_read * k) policies))
        (sym (policies_by new facts.lawful.0 pin.position facts.lawful.1) ∙ same);
  }
    where
      entry : Entry
      entry = read_turn old.caller pin.number (policies_per_read * k) part

      grows : Grows old new ((turn, entry) ∷ [])
      grows = grows_one turn entry old new some takes

      same : policies_at new pin.position ≡ policies_at old pin.position
      same = stays old new pin (known old pin facts_old holds_old) grows.opening grows.begins

      there : slice_get new.seen (length (old.seen ++ takes.between)) ≡ Some entry
      there =
          ap (λ (p : Holding (OfficeOpening D W)). slice_get p.seen (length (old.seen ++ takes.between))) takes.new_is
          ∙ slice_get-middle (old.seen ++ takes.between) [] entry

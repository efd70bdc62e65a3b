-- What a caller makes of the policies at a pinned position, whatever other callers do between its reads
use Rattle.std.specs.Prelude.{◌≡◌, ℕ, ◌≤◌, List, [], ◌∷◌, length, map, take, Some, Result, Ok, Err}
use Rattle.snapshot_value.specs.Names.{Command, Policy, At, commands_after, FollowsPin, Placed, pin_call, Holding, OfficeOpening, Reply, book}
use Rattle.policy_types.specs.declared.entry.Reply.TheVariants.{Pinned, PinRefused}
use Rattle.snapshot_value.specs.Growing.{Grows}
use Rattle.snapshot_value.specs.declared.valuation.ValueFault.{ValueFault}
use Rattle.snapshot_value.specs.declared.valuation.ValueFault.TheVariants.{Pin, NoMemory}

-- the most turns that a caller may need: those of its pin, and of the reads of as many policies as there may be
abbrev pub most_turns : ℕ
most_turns = 16000

-- the pins whose valuation or list was refused memory: the one that was taken in this turn, or none
abbrev pub dry_pins : {Made : Type 0} → ℕ → Result Made ValueFault → List ℕ
dry_pins turn (Err (NoMemory lack)) = turn ∷ []
dry_pins turn _ = []

module _ {Made : Type 0} (IsOf : ℕ → List Policy → Made → Type 0) where
  -- what is returned after the pin's reply: its own refusal and no other; or, if it was pinned after these commands,
  -- what is made of the position and the policies there, or that memory was refused
  abbrev pub AnswersPinned : List Command → Reply → Result Made ValueFault → Type 0
  AnswersPinned commands (PinRefused refusal) (Err (Pin why)) = why ≡ refusal
  AnswersPinned commands (Pinned position policies) (Ok made) = IsOf position (book (take position commands)) made
  AnswersPinned commands (Pinned position policies) (Err (NoMemory lack)) = Unit {0}
  AnswersPinned _ _ _ = ⊥

  -- The caller's turns are the pin's, then those that read its policies and the one that gives it up. What is
  -- returned is made of the policies at the position that was pinned.
  pub record HasMadeOfBook {D W : Type 0} (at : At) (old new : Holding (OfficeOpening D W)) (turn : ℕ)
      (answer : Result Made ValueFault) : Type 0 where
    pub pin : Placed
    pub later : List Placed
    pub grows : Grows old new (pin ∷ later)
    pub few : length (pin ∷ later) ≤ most_turns
    pub place : pin.0 ≡ turn
    pub asked : pin.1.call ≡ pin_call at
    pub follows : FollowsPin (dry_pins turn answer) pin.0 pin.1.reply (map (λ (turn : Placed). turn.1.call) later)
    pub opened : OfficeOpening D W
    pub opening : new.opening ≡ Some opened
    pub answered : AnswersPinned (commands_after opened.opening (take turn new.seen)) pin.1.reply answer

-- None of the pins so far has the number.
use Rattle.office_state.proofs.Names.{◌≡◌, ℕ, ◌<◌, slice_index_or, Held}
use Rattle.office_state.proofs.state.OfficeState.held.Given as goal

abbrev pub invariant-loop-held : goal.invariant-loop-held
invariant-loop-held g l = record {
  none : (k : ℕ) (d : Held) → k < l.held-index → (slice_index_or l.held-items k d).number ≡ l.pin → ⊥;
}

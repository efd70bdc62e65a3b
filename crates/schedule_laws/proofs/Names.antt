-- The names that several proofs cite, passed on from one place. Declares nothing.
pub use Rattle.std.proofs.Common.{◌∙◌, sym, ap, ◌≡◌, ℕ, ◌+◌, ◌≤◌, List, take, drop, refl, Some, arith, [], ◌++◌, subst, Bool, true, false, nat_lt, length, None, Option, ◌∷◌, ◌⊎◌, inl, inr, ◌<◌, cond, nat_le, ◌-◌, ◌==◌, not, if◌then◌else◌, ℤ, pos, ◌+ℤ◌, ◌-ℤ◌, append_assoc, append-nil, Ok, eqb-true, suc, zero, ◌*◌, ◌/◌, min, map, slice_get, filter_map}
pub use Rattle.policy_machine.proofs.HistoryGrowth.{read_due, IsLegalAfter-front, PinsHold-legal, Answered, answered_at, pinned_due, live_parts, slice_get-front, take-commands_after}
pub use Rattle.policy_machine.specs.Book.{book, issue_id, policy_of, judge, IsAccepted, IsAcceptedAfter}
pub use Rattle.policy_machine.specs.History.{commands_after, Opening, IsDue, live_pin, policies_per_read, refusal_due, IsLegalAfter, floor_of, least_or, live_positions, most_pins, IsLegal, accepted_of}
pub use Rattle.policy_machine.proofs.Parts.{kept, pin_of, accepted_by}

-- The names that several proofs cite, passed on from one place. Declares nothing.
pub use Rattle.std.proofs.Common.{arith, [], ◌≡◌, ◌≤◌, length, List, ◌∷◌, sym, ◌∙◌, ℕ, ◌++◌, ap, subst, rules, ◌+◌, refl, append-nil, ℤ, append_assoc, length-append, ◌*◌, take, drop, true, false, map, ◌<◌, Result, ◌-◌, ◌==◌, Bool, suc, zero, Some, slice_get, ◌≢◌, Ok, Err, IfOk, IsErr, lit<, Vec, Global, inl, inr, vec_capacity}
pub use Rattle.std.proofs.lemmas.List.{length-map, map-append, take_all, length-take, take_more, take-append-drop, take-append-le, with_items_is}
pub use Rattle.std.specs.List.{AllByRecursion, enumerate_from, filter, range_with_len, filter_map, AllZip}
pub use Rattle.basis_book.specs.Dated.{Dated}
pub use Rattle.parallel_value.proofs.PieceSteps.{all_back, all_front, zip_append, all_more, zip_more}
pub use Rattle.parallel_value.specs.Pieces.{AreAsBefore, IsAsBefore, AddsBehind, AreValues, MayGive, TakeAll}
pub use Rattle.policy_machine.specs.History.{policies_per_read, commands_after, floor_of, live_pin, accepted_of}
pub use Rattle.policy_machine.specs.Merge.{Placed, reads_of, turns_of, FollowsPin, pin_call}
pub use Rattle.policy_machine.specs.Rules.{IsSound}
pub use Rattle.policy_types.specs.Limits.{most_commands}
pub use Rattle.policy_types.specs.declared.entry.Entry.{Entry}
pub use Rattle.policy_types.specs.declared.policy.Policy.{Policy}
pub use Rattle.policy_value.specs.declared.worth.Measure.{Measure}
pub use Rattle.policy_value.specs.declared.worth.Row.{Row}
pub use Rattle.shared_office.specs.Offices.{IsOfficeHistory, OfficeOpening}
pub use Rattle.shared_office.specs.Pins.{HoldsPin, KeepsPins, KeepsOtherPins, pinning_turn}
pub use Rattle.snapshot_value.specs.Growing.{Grows}
pub use Rattle.snapshot_value.specs.inside.Reads.{reads_needed, HasReadPart, policies_at, HasReadFirst, FollowsReads, HasMadeOfPin, HasMadeOfReads, HasReadEach, HasReadSome, calls_of}
pub use Rattle.snapshot_value.specs.inside.Sheets.{AreSmallRows, HasMade, IsSheetReady}
pub use Rattle.snapshot_value.specs.inside.Workers.{IsReadyWorker, ValuesBy, GivesRow, TakesPolicy, IsSmallRow}
pub use Rattle.turn_lock.specs.Passes.{Holding, TakesTurn, PassFacts}

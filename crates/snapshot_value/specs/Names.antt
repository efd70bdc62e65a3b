-- The names from elsewhere that several modules cite, passed on from one place. Declares nothing.
pub use Rattle.std.specs.List.{AllByRecursion, AllZip}
pub use Rattle.std.specs.Thread.{IsSync}
pub use Rattle.basis_book.specs.Dated.{Dated, IsPicked}
pub use Rattle.policy_machine.specs.Book.{book}
pub use Rattle.policy_machine.specs.History.{policies_per_read, commands_after}
pub use Rattle.policy_machine.specs.Merge.{Placed, pin_call, turns_of, FollowsPin, AnswersLine, reads_of}
pub use Rattle.policy_machine.specs.Rules.{IsSound}
pub use Rattle.policy_types.specs.Limits.{most_commands}
pub use Rattle.policy_types.specs.declared.command.Command.{Command}
pub use Rattle.policy_types.specs.declared.entry.At.{At}
pub use Rattle.policy_types.specs.declared.entry.Reply.{Reply}
pub use Rattle.policy_types.specs.declared.policy.Policy.{Policy, Policy as APolicy}
pub use Rattle.policy_value.specs.Measures.{most_worth}
pub use Rattle.policy_value.specs.Rows.{IsWithinAmount, IsValuedRow}
pub use Rattle.policy_value.specs.declared.worth.Measure.{Measure, Measure as AMeasure}
pub use Rattle.policy_value.specs.declared.worth.Row.{Row}
pub use Rattle.shared_office.specs.Offices.{OfficeOpening, IsOfficeHistory}
pub use Rattle.shared_office.specs.Pins.{KeepsPins, HoldsPin, KeepsOtherPins, pinning_turn}
pub use Rattle.turn_lock.specs.Passes.{Holding, PassFacts, TakesTurn}

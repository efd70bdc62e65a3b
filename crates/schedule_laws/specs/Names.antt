-- The names from elsewhere that several modules cite, passed on from one place. Declares nothing.
pub use Rattle.std.specs.List.{sum_by, filter_map, AllByRecursion, flat_map}
pub use Rattle.policy_machine.specs.Book.{book, IsAccepted, issue_id}
pub use Rattle.policy_machine.specs.History.{Opening, IsLegal, live_pin, commands_after, floor_of, policies_per_read, accepted_of, IsDue, IsOwnPin}
pub use Rattle.policy_types.specs.declared.command.Command.{Command}
pub use Rattle.policy_types.specs.declared.entry.Call.TheVariants.{Read, Post, Unpin}
pub use Rattle.policy_types.specs.declared.entry.Entry.{Entry}
pub use Rattle.policy_types.specs.declared.entry.Reply.{Reply}
pub use Rattle.policy_types.specs.declared.entry.Reply.TheVariants.{Pinned, Slice as Policies, Accepted, Refused, Faulted}
pub use Rattle.policy_types.specs.declared.policy.Policy.{Policy}

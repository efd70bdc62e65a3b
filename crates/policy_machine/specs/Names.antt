-- The names from elsewhere that several modules cite, passed on from one place. Declares nothing.
unfoldable pub use Rattle.std.specs.List.{IsDistinct}
pub use Rattle.std.specs.List.{AllByRecursion, range_with_len, fold, filter_map, count_by, filter, list_any, last_or, Contains, enumerate_from, repeat}
pub use Rattle.std.specs.Option.{option_copied, option_and_then, option_map, option_map_or, option_or, unwrap_or}
pub use Rattle.std.specs.Result.{result_ok, result_err, result_map_both}
unfoldable pub use Rattle.life_dates.specs.Anniversary.{anniversary_of}
pub use Rattle.policy_types.specs.Accounts.{added, booking_of, Booking, nothing_booked, sum_of, AreWithin, premium_received, benefit_incurred, benefit_paid}
pub use Rattle.policy_types.specs.Limits.{most_commands}
pub use Rattle.policy_types.specs.Valid.{id_of, IsValid, is_upgrade, day_of, IsIssue, IsCommandDay}
pub use Rattle.policy_types.specs.contracts.policy.StatusPartialEq.TheImpl.{eq-value as status_eq}
pub use Rattle.policy_types.specs.declared.command.Command.{Command, Command as ACommand}
pub use Rattle.policy_types.specs.declared.command.Command.TheVariants.{Issue, Claim, Lapse, Settle, Mature, Alter, Upgrade, Premium, Reinstate, PaidUp, PaidUp as MakePaidUp}
pub use Rattle.policy_types.specs.declared.command.Plan.{Plan}
pub use Rattle.policy_types.specs.declared.command.Plan.TheVariants.{Term, Endowment, Whole, Limited}
pub use Rattle.policy_types.specs.declared.entry.At.TheVariants.{Now, Position}
pub use Rattle.policy_types.specs.declared.entry.Call.{Call}
pub use Rattle.policy_types.specs.declared.entry.Call.TheVariants.{Post, Pin, Read, Unpin, PinAt, Trim, Trim as TrimCall}
pub use Rattle.policy_types.specs.declared.entry.Entry.{Entry}
pub use Rattle.policy_types.specs.declared.entry.PinRefusal.TheVariants.{Ahead, Trimmed, PinsFull}
pub use Rattle.policy_types.specs.declared.entry.Reply.{Reply}
pub use Rattle.policy_types.specs.declared.entry.Reply.TheVariants.{Accepted, Refused, Pinned, PinRefused, Slice as Policies, Unpinned, Floor, Faulted, Blank}
pub use Rattle.policy_types.specs.declared.policy.Policy.{Policy}
pub use Rattle.policy_types.specs.declared.policy.Status.{Status}
pub use Rattle.policy_types.specs.declared.policy.Status.TheVariants.{InForce, Lapsed, Claimed, Matured, Expired, Settled, PaidUp as IsPaidUp}
pub use Rattle.policy_types.specs.declared.refusal.Refusal.{Refusal}
pub use Rattle.policy_types.specs.declared.refusal.Refusal.TheVariants.{Unknown, BeforeLast, WrongStatus, TermOver, GraceOver, NothingDue, WrongAmount, Taken, NotAReduction, NotMatured, OverSettled, Upgraded, TooEarly, NotInArrears, TooLate, NotUpgraded, Full}
pub use Rattle.policy_types.specs.declared.script.Lane.{Lane}

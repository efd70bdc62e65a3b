-- The names from elsewhere that several rooms cite, passed on from one place. Declares nothing.
pub use Rattle.std.specs.Int.{w32, w64, to_be_bytes, cast_unsigned, cast_signed, from_be_bytes}
unfoldable pub use Rattle.std.specs.List.{IsDistinct}
pub use Rattle.std.specs.List.{AllByRecursion, flat_map}
pub use Rattle.std.specs.Map.{lookup, keys_of}
pub use Rattle.indexmap.specs.IndexMap.{index_of, insert_entry}
pub use Rattle.journal_replay.specs.Replays.{StaysAs, HasReplayCause, Stops, BodiesHave, bodies_of}
pub use Rattle.money_ledgers.specs.Balances.{balances}
pub use Rattle.outside_io.specs.Faults.{Rose}
pub use Rattle.outside_io.specs.declared.disks.Disk.{Ghosts}
pub use Rattle.policy_machine.specs.Book.{judge, IsAccepted, judged, book, upgrade_of}
pub use Rattle.policy_machine.specs.Rules.{IsSound, issued}
pub use Rattle.policy_types.specs.Accounts.{AreWithin, IsWithin, added, booking_of}
pub use Rattle.policy_types.specs.Limits.{most_commands}
pub use Rattle.policy_types.specs.Valid.{IsValid, id_of, is_upgrade}
pub use Rattle.policy_types.specs.declared.command.Command.{Command}
pub use Rattle.policy_types.specs.declared.command.Plan.TheVariants.{Endowment}
pub use Rattle.policy_types.specs.declared.policy.Policy.{Policy, Policy as APolicy}
pub use Rattle.policy_types.specs.declared.policy.Status.{Status}
pub use Rattle.policy_types.specs.declared.policy.Status.TheVariants.{Claimed, InForce, Lapsed, Matured, Expired, Settled, PaidUp}
pub use Rattle.posting_journal.specs.Faults.{TellsFailure, TellsFaults}
pub use Rattle.posting_journal.specs.Runs.{IsSafe, LooksOn, Leaves, Passes}
pub use Rattle.posting_journal.specs.States.{disk_of, StandsFor, count_of}
pub use Rattle.record_codec.specs.Numbers.{eight_bytes_at, four_bytes_at}
pub use Rattle.record_codec.specs.Spelling.{plan_byte}
unfoldable pub use Rattle.record_codec.specs.Spelling.{spelling_of}

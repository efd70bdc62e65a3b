-- The names from elsewhere that several modules cite, passed on from one place. Declares nothing.
pub use Rattle.std.specs.List.{AllByRecursion, list_any}
pub use Rattle.moment_ring.specs.Ends.{HasRoomFor, SameOutlet, told as moments_told}
pub use Rattle.office_state.specs.States.{MomentRing, auditors_of, begun_of, disk_of, opening_of, outlet_of}
pub use Rattle.office_state.specs.declared.held.Held.{Held}
pub use Rattle.outside_io.specs.declared.disks.Disk.{Ghosts}
pub use Rattle.policy_machine.specs.History.{Opening, commands_after, IsLegal, gives_up, accepted_of}
pub use Rattle.policy_types.specs.Limits.{most_commands}
pub use Rattle.policy_types.specs.Valid.{IsValid}
pub use Rattle.policy_types.specs.declared.entry.Call.TheVariants.{PinAt, Pin as PinCall, Pin}
pub use Rattle.policy_types.specs.declared.entry.Entry.{Entry}
pub use Rattle.policy_types.specs.declared.entry.PinRefusal.{PinRefusal}
pub use Rattle.turn_lock.specs.Passes.{Holding, PassFacts, TableId, TakesTurn, all_shares, IsFirst, OwnsAll}
pub use Rattle.watcher_set.specs.declared.watching.Watching.{Ghosts as WatcherGhosts}

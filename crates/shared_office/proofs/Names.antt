-- The names that several proofs cite, passed on from one place. Declares nothing.
pub use Rattle.std.proofs.Common.{refl, ap, ◌∙◌, ◌≡◌, List, [], subst, Some, ℕ, ◌≤◌, ◌∷◌, ◌++◌, length, sym, arith, Option, suc, ◌+◌, ◌<◌, ◌==◌, Bool, true, false, ◌||◌, drop, filter, slice_get, append_assoc, append-nil, Ok, Err, Result, IfOk, None, length-append}
pub use Rattle.office_state.specs.States.{opening_of, MomentRing, pins_of, auditors_of, begun_of, commands_of, disk_of, outlet_of, Opened}
pub use Rattle.outside_io.specs.declared.disks.Disk.{Ghosts}
pub use Rattle.policy_types.specs.declared.entry.Call.TheVariants.{Pin, PinAt, Post, Read, Unpin, Trim}
pub use Rattle.policy_types.specs.declared.entry.Entry.{Entry}
pub use Rattle.watcher_set.specs.declared.watching.Watching.{Ghosts as WatcherGhosts}

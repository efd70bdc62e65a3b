-- The names from elsewhere that several modules cite, passed on from one place. Declares nothing.
pub use Rattle.std.specs.List.{AllByRecursion, filter_map, Contains, fold, last_or, range_with_len, cons_option, filter}
pub use Rattle.journal_replay.specs.Replays.{bodies_of, BodiesHave, HasReplayCause, IsLookedAt, IsQuiet, StaysAs, Stops}
pub use Rattle.moment_ring.specs.Ends.{told, SameOutlet, HasRoomFor}
pub use Rattle.money_ledgers.specs.Balances.{balances}
pub use Rattle.outside_io.specs.declared.disks.Disk.{Ghosts}
pub use Rattle.policy_machine.specs.Accounts.{ledger_of}
pub use Rattle.policy_machine.specs.Book.{IsAccepted, book, policy_of, judge as judge_of, judge, judged_after, IsAcceptedAfter, upgrade_of, issue_id}
pub use Rattle.policy_machine.specs.History.{Opening, commands_after, accepted_of, floor_of, fault_of, opened_on, live_pin, IsLegal, most_pins}
pub use Rattle.policy_machine.specs.Rules.{next}
pub use Rattle.policy_types.specs.Accounts.{Booking}
pub use Rattle.policy_types.specs.Limits.{most_commands}
pub use Rattle.policy_types.specs.Valid.{IsValid, id_of, is_upgrade}
pub use Rattle.policy_types.specs.declared.command.Command.{Command, Command as ACommand}
pub use Rattle.policy_types.specs.declared.command.Command.TheVariants.{Upgrade, Issue, Premium, Alter, Lapse, Reinstate, Claim, Settle, Mature, PaidUp}
pub use Rattle.policy_types.specs.declared.command.Plan.TheVariants.{Endowment, Term, Whole, Limited}
pub use Rattle.policy_types.specs.declared.entry.Call.TheVariants.{Post, Pin, PinAt, Read, Unpin, Trim}
pub use Rattle.policy_types.specs.declared.entry.Entry.{Entry}
pub use Rattle.policy_types.specs.declared.entry.PinRefusal.{PinRefusal}
pub use Rattle.policy_types.specs.declared.entry.Reply.{Reply}
pub use Rattle.policy_types.specs.declared.entry.Reply.TheVariants.{Accepted, Faulted, Refused, Blank, Pinned, PinRefused, Slice as Policies, Unpinned, Floor}
pub use Rattle.policy_types.specs.declared.policy.Policy.{Policy}
pub use Rattle.policy_types.specs.declared.refusal.Refusal.{Refusal}
pub use Rattle.posting_journal.specs.Creation.{IsUnfinished, IsForeign, IsBadAt}
pub use Rattle.posting_journal.specs.Files.{IsJournal}
pub use Rattle.posting_journal.specs.Opening.{IsSynced}
pub use Rattle.posting_journal.specs.Runs.{LooksOn, Leaves}
pub use Rattle.posting_journal.specs.States.{disk_of, StandsFor, is_clean, disk_of as disk_under}
pub use Rattle.posting_journal.specs.declared.journal.Journal.{Journal}
unfoldable pub use Rattle.record_codec.specs.Spelling.{spelling_of}
pub use Rattle.rtrb.specs.Ring.{sent}
pub use Rattle.versioned_book.specs.Books.{IsPlaceIn, versions_in, CanSet, kept_of, IsBookOf, IsBookOf-prop}
pub use Rattle.versioned_book.specs.Settings.{own, Setting, keys_of, until, positions, settings_after}
pub use Rattle.versioned_book.specs.Versions.{newest_of, value_at, versions_from, IsRisingTo}
pub use Rattle.watcher_set.specs.Noted.{reports_of, Auditor}
pub use Rattle.watcher_set.specs.declared.watching.Watching.{Ghosts as WatcherGhosts}

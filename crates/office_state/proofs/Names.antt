-- The names that several proofs cite, passed on from one place. Declares nothing.
pub use Rattle.std.proofs.Common.{◌≢◌, List, ◌≡◌, [], refl, ◌∷◌, ◌∙◌, ℕ, arith, ◌++◌, sym, ap, subst, ◌≤◌, length, inl, inr, None, ◌<◌, Some, Option, take, ◌+◌, false, append-nil, suc, Ok, true, Err, ◌⊎◌, Bool, drop, zero, slice_get, append_assoc, ◌-◌, min, length-append, filter_map, map, nat_eq, get_or, ◌*◌, not, filter, Result, ◌||◌, if◌then◌else◌, ◌^◌, cond, ◌==◌, lit<, lit≤, rules, is_some, ℤ, pos, negsuc, bytes_eq, true≢false, nat_le, ⊎_elim, IsTrue, add-one, nat_lt, vec_capacity, IfSome, IfOk, slice_index_or}
pub use Rattle.std.proofs.lemmas.Bool.{cases_lt, eq-eqb, eqb-true, cases_Bool, cond-true, cond-false, ne_eqb}
pub use Rattle.std.proofs.lemmas.List.{length_push, take_all, map-append, length-map, take-append-le, length-drop, take-append-drop, take_min, take_more, get_or-drop}
pub use Rattle.std.proofs.lemmas.List.Elements.{filter_map-append, filter-append}
pub use Rattle.std.proofs.lemmas.Option.{slice_get_within, same_Some, slice_get-get_or, get_or_from_slice_get, none-some}
pub use Rattle.std.specs.List.{AllByRecursion, cons_option, fold, list_any, Contains, range_with_len}
pub use Rattle.std.specs.Prelude.{MatchResult, slice_index}
pub use Rattle.journal_replay.specs.Replays.{bodies_of, IsStoppedAt, Stops, HasReplayCause, IsLookedAt, BodiesHave, Replays}
pub use Rattle.moment_ring.specs.Ends.{TellsOne, told, SameOutlet, HasRoomFor}
pub use Rattle.office_state.proofs.Holdings.{HoldsAtLeast, HoldsNow, HoldsOnce, IsPending, IsQuietReply, KeepsAccepted}
pub use Rattle.office_state.specs.Images.{AreSafeSince, HasKept, IsFrontThere, IsThere, WasFaulted, IsLeftBy, faults_after, IsLeftAlone, OpensAlike}
pub use Rattle.office_state.specs.Journals.{JournalBytes, Opens, IsShown, IsUnfollowed, IsOfTheFile, OpensToNone}
pub use Rattle.office_state.specs.Pins.{pins_held, held_at, held_in, IsHeldBy, MayRead}
pub use Rattle.office_state.specs.Standing.{StandsFor, LeavesSince, KeepsFew}
pub use Rattle.office_state.specs.States.{opening_of, commands_of, begun_of, MomentRing, floor_kept, pins_of}
pub use Rattle.office_state.specs.Worked.{hand_premium, hand_issue, issue_body, issue_record, premium_turn, journal_of_two, premium_body}
pub use Rattle.office_state.specs.declared.books.Books.{Books}
pub use Rattle.office_state.specs.declared.faults.StartCause.{StartCause}
pub use Rattle.office_state.specs.declared.faults.StartCause.TheVariants.{BadRecord, NotAJournal, DiskFault, NoMemory}
pub use Rattle.office_state.specs.declared.held.Held.{Held}
pub use Rattle.office_state.specs.declared.state.OfficeState.{OfficeState}
pub use Rattle.office_state.specs.inside.Books.{commands_in, floor_in, looks_at_most, kept_in, policies_in}
pub use Rattle.office_state.specs.inside.Holding.{JournalHolds, IsLeftBehind}
pub use Rattle.office_state.specs.inside.Replays.{IsOfficeOf, HasNoOffice, MakeJournal, as_replay_cause, as_cause}
pub use Rattle.office_state.specs.versions.Commands.{sets_of, setting_by, setting_of, sets_after}
pub use Rattle.outside_io.specs.Faults.{Rose}
pub use Rattle.outside_io.specs.declared.disks.Disk.{Ghosts}
pub use Rattle.policy_machine.proofs.BookLemmas.{IsAccepted-push, policy_of-sound, policy_of-push_own, policy_of-push_other, policy_of-own}
pub use Rattle.policy_machine.proofs.HistoryGrowth.{floor_of-kept, live_parts, slice_get-front, slice_get-middle, PinsHold, PinsHold-legal, floor_of-set, least-count}
pub use Rattle.policy_machine.proofs.JudgeLemmas.{next-no_upgrade, accepted_at, upgrade_from-other, accepted_next, next-upgrade, judged_none, judged_some}
pub use Rattle.policy_machine.specs.Book.{IsAccepted, policy_of, judge, book, issue_id, judged_after, IsAcceptedAfter, upgrade_of, judged}
pub use Rattle.policy_machine.specs.History.{accepted_of, Opening, commands_after, IsDue, refusal_due, opened_on, gives_up, live_pin, live_positions, floor_of, IsFreshFault, IsLegalAfter, fault_of, IsOwnPin, least_or, most_pins, IsLegal}
pub use Rattle.policy_machine.proofs.Parts.{refusal_in, kept, pin_of, accepted_by, floor_set, IsAbove, pinned_position}
pub use Rattle.policy_machine.specs.Rules.{next, IsSound}
pub use Rattle.policy_types.specs.Limits.{most_commands}
pub use Rattle.policy_types.specs.Valid.{id_of, IsValid, is_upgrade, AreYears, IsCommandDay}
pub use Rattle.policy_types.specs.declared.command.Command.{Command}
pub use Rattle.policy_types.specs.declared.command.Command.TheVariants.{Upgrade, Issue, Premium, Alter, Lapse, Reinstate, Claim, Settle, Mature, PaidUp}
pub use Rattle.policy_types.specs.declared.entry.Entry.{Entry}
pub use Rattle.policy_types.specs.declared.entry.Reply.{Reply}
pub use Rattle.policy_types.specs.declared.entry.Reply.TheVariants.{Accepted, Faulted, Blank, Refused, Pinned}
pub use Rattle.policy_types.specs.declared.policy.Policy.{Policy}
pub use Rattle.policy_types.specs.declared.refusal.Refusal.{Refusal}
pub use Rattle.policy_types.specs.declared.refusal.Refusal.TheVariants.{Taken, Full, Unknown, NothingDue}
pub use Rattle.posting_journal.specs.Creation.{OpensToBodies, IsForeign, IsBadAt, IsUnfinished}
pub use Rattle.posting_journal.specs.Files.{IsJournal, HasRecords}
pub use Rattle.posting_journal.specs.Runs.{Leaves, LooksOn}
pub use Rattle.posting_journal.specs.States.{is_clean, disk_of as disk_under, disk_of, IsKept, StandsFor as JournalStands, count_of as records_in, count_of}
pub use Rattle.posting_journal.specs.declared.journal.Journal.{Journal}
pub use Rattle.record_codec.proofs.SpellingLemmas.{one_command, read_fields, read_fields-spelling}
unfoldable pub use Rattle.record_codec.specs.Spelling.{spelling_of}
pub use Rattle.rtrb.specs.Ring.{sent}
pub use Rattle.versioned_book.proofs.SettingSteps.{until_all, keys_of-new, keys_of-old, until_past, own-other, own-push, positions_rise, rising-longer}
pub use Rattle.versioned_book.specs.Settings.{Setting, own, keys_of, until, keys_after, with_key, positions, settings_after}
pub use Rattle.versioned_book.specs.Versions.{newest_of, value_at, versions_from, or_else, AreFewSteps, trimmed_from, IsRisingTo}
pub use Rattle.watcher_set.specs.declared.watching.Watching.{Ghosts as WatcherGhosts}
pub use denote.RattleType.{owns, RattleType, Valss}
pub use denote.Steps.{nothing}
pub use mir.Val.{Val, vstruct, vnil, vptr}
pub use seplogic.Ra.Ura.{Ura}
pub use types.Logic.{Logic}

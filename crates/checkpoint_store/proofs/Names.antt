-- The names that several proofs cite, passed on from one place. Declares nothing.
pub use Rattle.std.proofs.Common.{◌≡◌, ◌∙◌, ℕ, List, arith, subst, length, sym, ap, refl, ◌∷◌, [], ◌≤◌, ◌++◌, ◌+◌, take, inl, rules, ◌*◌, drop, get_or, true, None, Ok, Err, ◌-◌, Bool, ◌⊎◌, inr, false, IsTrue, FitsSigned, length-append, nat_eq, Some, Result, ◌<◌, ◌↔◌, ℤ, w64, cond, Option, IfSome, OnOk, IfOk, true≢false, zero, suc, append-nil, MatchResult, to_z, of_z, append_assoc, ◌==◌, filter_map, ◌/◌, min, length-drop, is_some, map, to_z-of_z, ⊎_elim, ◌^◌, IfErr}
pub use Rattle.std.proofs.lemmas.Bool.{eqb-false, cases_eq, eqb-true, ne_eqb, eq-eqb, cases_lt}
pub use Rattle.std.proofs.lemmas.Int.{ints}
pub use Rattle.std.proofs.lemmas.List.{take_at, take-append-drop, take-take, drop-drop, drop-take, length-take-le, map-append, drop_at, get_or-take, length-map, length-take, take_more, get_or-map, take-append-le, take-map}
unfoldable pub use Rattle.std.specs.List.{IsDistinct}
pub use Rattle.std.specs.List.{flat_map, AllByRecursion, cons_option, fold}
pub use Rattle.std.specs.Map.{lookup, keys_of}
pub use Rattle.checkpoint_store.specs.Checkpoints.{CheckpointBytes, IsSoundSnapshot, IsNoCheckpoint, IsSnapshotOf}
pub use Rattle.checkpoint_store.specs.Reopening.{IsSnapshotOfAll, IsSnapshotOfFront, IsStartOf, IsFirstBadBody, IsTrueCheckpoint, AreDecided, IsReopened, IsSnapshotRead, IsFaultOfTwo}
unfoldable pub use Rattle.checkpoint_store.specs.Spelling.{policy_bytes, balance_bytes, position_bytes}
pub use Rattle.checkpoint_store.specs.Spelling.{StandBehindGate, snapshot_bytes, status_byte, front_bytes}
pub use Rattle.checkpoint_store.specs.Stores.{IsShut, AreShut, DifferInGate, IsKeptBy, IsKeptOrSavedBy, Knows, KnowsGate, MightBeLeft, StoreLeaves, store_disk}
pub use Rattle.checkpoint_store.specs.declared.front.Front.{Front}
pub use Rattle.checkpoint_store.specs.declared.numbered.NumberedBooks.{NumberedBooks}
pub use Rattle.checkpoint_store.specs.declared.snapshot.Snapshot.{Snapshot}
pub use Rattle.checkpoint_store.specs.declared.store.Store.{Store}
pub use Rattle.checkpoint_store.specs.inside.Books.{AreKeyed, Entries, numbered_policies}
pub use Rattle.checkpoint_store.specs.inside.Numbered.{AreSoundBooks, AreBooksOf, as_snapshot, HasSetPolicy}
pub use Rattle.checkpoint_store.specs.inside.Parsing.{front_of, IsFrontInRange, policy_of_bytes, front_in, status_of_byte}
pub use Rattle.checkpoint_store.specs.inside.Steps.{StaysShut, GatesOn, HasOtherGate, LooksAtGate, OpensGateOn}
pub use Rattle.checkpoint_store.specs.inside.Storing.{AreBegun, AreUpTo, AreBytesOf, BegunNext, IsFrontOn, UpToNext, AreBooksBehind, DoFit, HasBooks, HasFront, HasPolicies, IsAddedTo, IsStored, WasAdded}
pub use Rattle.indexmap.specs.IndexMap.{insert_entry, IndexMap, index_of, set_value_at}
pub use Rattle.money_ledgers.specs.Balances.{balances, HasRoom}
pub use Rattle.outside_io.specs.Disks.{Syncs, Holds, Torn, Writes}
pub use Rattle.outside_io.specs.declared.disks.Disk.{Ghosts}
pub use Rattle.policy_machine.specs.Book.{judge, IsAccepted, policy_of, book, issue_id, judged, judged_after, upgrade_of}
pub use Rattle.policy_machine.proofs.Parts.{refusal_in, kept, own}
pub use Rattle.policy_machine.specs.Rules.{IsSound, next}
pub use Rattle.policy_types.specs.Accounts.{IsWithin, AreWithin, added, booking_of}
pub use Rattle.policy_types.specs.Valid.{id_of, IsValid, is_upgrade}
pub use Rattle.policy_types.specs.declared.command.Command.{Command}
pub use Rattle.policy_types.specs.declared.policy.Policy.{Policy}
pub use Rattle.posting_journal.proofs.Moments.{wider, goes_on, leaves, leaves_more, leaves_on, looked, looks_on}
pub use Rattle.record_codec.specs.Numbers.{eight_bytes_at, four_bytes_at}
pub use Rattle.record_codec.specs.Spelling.{plan_of_byte}
pub use Rattle.posting_journal.specs.Runs.{IsSafe, Passes, LooksOn, Leaves}

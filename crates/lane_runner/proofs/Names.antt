-- The names that several proofs cite, passed on from one place. Declares nothing.
pub use Rattle.std.proofs.Common.{◌≡◌, sym, ◌∙◌, subst, length, arith, [], ◌∷◌, ap, ◌++◌, refl, List, ℕ, ◌+◌, ◌≤◌, Some, take, length-append, rules, ◌<◌, map, false, append_assoc, suc, Bool, true, zero, append-nil, ◌==◌, inl, inr, slice_get, Option, drop, get_or, Err, None, ◌⊎◌, nat_eq, vec_len, vec_capacity, Result, Ok, ℤ, ◌↔◌, ◌*◌, ◌-◌, ◌/◌, ◌^◌, ◌||◌, All, w32, to_z, of_z}
pub use Rattle.std.proofs.lemmas.Bool.{eq-eqb, false≢true, eqb-true, cond-true, cond-false}
pub use Rattle.std.proofs.lemmas.List.{map-append, length-map, take_all}
pub use Rattle.std.proofs.lemmas.List.Concat.{flat_map-append}
pub use Rattle.std.proofs.lemmas.List.Sorted.{IsPermutation-refl, IsPermutation-trans, IsPermutation-map, IsPermutation-sym, Contains-permutation, IsPermutation-keeps, IsPermutation-swap, IsPermutation-append_comm, IsPermutation-append_left, IsPermutation-append_right}
unfoldable pub use Rattle.std.specs.List.{IsDistinct}
pub use Rattle.std.specs.List.{AllZip, AllByRecursion, flat_map, Contains, filter, slice_set, count_by, swap, enumerate_from, list_any}
pub use Rattle.std.specs.List.Sorted.{IsPermutation}
pub use Rattle.std.specs.Vec.Iter.{into_iter_items, into_iter_len}
pub use Rattle.basis_book.specs.Dated.{Dated}
pub use Rattle.lane_runner.proofs.LaneLines.{AreOfLanes}
pub use Rattle.lane_runner.specs.AnsweredLines.{AnsweredLine, turns_in, lines_by}
pub use Rattle.lane_runner.specs.Lanes.{AreRightLanes, IsRightLine, IsRightLane, is_value}
pub use Rattle.lane_runner.specs.Tallies.{accepted_lines, tells_accepted, has_faulted, lacks_memory, tells_refused}
pub use Rattle.lane_runner.specs.Transcripts.{dry_of, IsTold, lacked_memory, HasAnsweredLanes, HasRunLanes, IsOutcome, AreDry}
pub use Rattle.lane_runner.specs.Written.{line_texts, HasEnded, StopsShort}
pub use Rattle.lane_runner.specs.declared.telling.Inlet.{Inlet}
pub use Rattle.lane_runner.specs.declared.telling.Outlet.{Outlet}
pub use Rattle.lane_runner.specs.declared.transcript.TranscriptLine.{TranscriptLine}
pub use Rattle.lane_runner.specs.declared.wording.Unwritten.TheVariants.{WriteFault, NoMemory}
pub use Rattle.lane_runner.specs.inside.Added.{AreTallied, all_added}
pub use Rattle.lane_runner.specs.inside.Gathering.{HasPutOut}
pub use Rattle.lane_runner.specs.inside.Merging.{IsMerged, all_to_come, AreInOrder, HasLooked, HasTakenLines, HasNext, HasTurnAt, IsBehind, IsNearerOf, IsNearest, IsNextTurn, IsTurnOf}
pub use Rattle.lane_runner.specs.inside.Parts.{HasAnswered, Seat, HasEntered, HasRunIn, HaveRun, IsRoomFor, told_in, HasLeft, IsReadySeat, shares_to_enter, turns_to_enter, AreEnds, IsInletFor, turns_needed, IsFresh, all_left, all_shares_in, IsBoxed, in_box, outcome_of, turns_for, IsEndOf, IsSameSeat, IsSpent, IsWhole}
pub use Rattle.lane_runner.specs.inside.Showing.{IsShowing, IsHandingOn}
pub use Rattle.outside_io.specs.Streams.{TakenPiece, AppendsPart, AddsPieces, taken_bytes}
pub use Rattle.policy_machine.specs.History.{Opening, commands_after}
pub use Rattle.policy_machine.specs.Merge.{turns_of, AnswersLine, Placed, AnswersLines, FollowsPin, IsMerge, AnswersLanes}
pub use Rattle.policy_types.specs.Lanes.{lines_in, AreRising}
pub use Rattle.policy_types.specs.declared.entry.Entry.{Entry}
pub use Rattle.policy_types.specs.declared.script.Lane.{Lane}
pub use Rattle.policy_types.specs.declared.script.Line.{Line}
pub use Rattle.policy_types.specs.declared.script.Line.TheVariants.{Value, Post, Trim}
pub use Rattle.rtrb.specs.Ring.{received, SameConsumer, sent, known_items, SameProducer, known_free}
pub use Rattle.shared_office.specs.Offices.{IsOfficeHistory, OfficeOpening}
pub use Rattle.turn_lock.specs.History.{entries_of, StartsWith}
pub use Rattle.turn_lock.specs.Passes.{PassFacts, Holding, Page, pages, TakesTurn, OwnsAll, TableId, Enters, LeavesLock}

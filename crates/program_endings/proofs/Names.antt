-- The names that several proofs cite, passed on from one place. Declares nothing.
pub use Rattle.std.proofs.Common.{ℕ, ◌≡◌, List, refl, ap, ◌∙◌, subst, inl, inr, arith, [], ◌∷◌, sym, take, ◌++◌, Some, None, ◌≤◌, suc, ◌⊎◌, Option, zero, ◌+◌, true, false, map, ◌<◌, length, flat_map, lit<, Bool, append_assoc, append-nil, codes, lit≤, ℤ, ◌-◌, Result, Ok, Err, OnErr, drop, get_or, length-append, ◌==◌, ◌*◌, pos}
pub use Rattle.std.proofs.lemmas.Bool.{cond-true, false≢true, cond-false, eq-eqb}
pub use Rattle.std.proofs.lemmas.List.Elements.{All-weaker, filter_map-append, Contains-append_cases, Contains-append_right, Contains-push_cases}
pub use Rattle.std.specs.Io.KnownBytes.{Appends}
pub use Rattle.std.specs.List.{AllByRecursion, cons_option, enumerate_from, filter, filter_map, last_or}
pub use Rattle.std.specs.Prelude.{slice_get, slice_index, ◌||◌}
unfoldable pub use Rattle.basis_shelf.specs.Lines.{bad_basis_text}
pub use Rattle.outside_io.specs.Faults.{Rose}
pub use Rattle.outside_io.specs.Streams.{AppendsPart}
pub use Rattle.policy_machine.specs.History.{Opening, IsDue, IsLegalAfter, fault_of, accepted_of}
pub use Rattle.policy_machine.proofs.Parts.{IsAbove, accepted_by}
pub use Rattle.policy_types.specs.declared.command.Command.{Command}
pub use Rattle.policy_types.specs.declared.entry.Call.{Call}
pub use Rattle.policy_types.specs.declared.entry.Call.TheVariants.{Post, Pin, PinAt, Read, Unpin, Trim, Trim as TrimCall}
pub use Rattle.policy_types.specs.declared.entry.Entry.{Entry}
pub use Rattle.policy_types.specs.declared.entry.Reply.{Reply}
pub use Rattle.policy_types.specs.declared.entry.Reply.TheVariants.{Blank, Accepted, Faulted, Pinned, Refused, PinRefused, Slice, Unpinned, Floor}
pub use Rattle.program_endings.specs.Status.{status_of}
pub use Rattle.program_endings.specs.Writing.{Stream, Shelving, WroteOrFailed, WroteAll, WroteLine}
pub use Rattle.program_endings.specs.declared.ending.Ending.{Ending}
pub use Rattle.program_endings.specs.declared.ending.Ending.TheVariants.{NoMemory, BadBasis, Done, BadJournal, WriteFault, DiskFault, ReadFault, Usage, BadScript, ReadFault as InputFault, Ahead}

-- The names that several proofs cite, passed on from one place. Declares nothing.
pub use Rattle.std.proofs.Common.{◌≡◌, ℕ, List, inl, refl, [], inr, subst, arith, lit≤, ℤ, ◌∷◌, ◌<◌, length, ◌≤◌, pos, Result, ◌∙◌, lit<, ap, Ok, append-nil, Option, ◌⊎◌, take, Err, IfOk, w32, to_z, of_z, zero, suc, ap₂, sym, ◌≤ℤ◌, ◌<ℤ◌, true, All}
pub use Rattle.std.proofs.lemmas.Int.{ints, to_z-of_z}
unfoldable pub use Rattle.std.specs.Fmt.{digits}
pub use Rattle.std.specs.List.{AllZip}
pub use Rattle.basis_book.specs.Dated.{Dated, IsPicked}
unfoldable pub use Rattle.life_dates.specs.Calendar.{date_of, month_of, days_before_year, days_of_months, day_number}
pub use Rattle.life_dates.specs.Calendar.{IsDay}
unfoldable pub use Rattle.life_dates.specs.DayText.{day_text}
pub use Rattle.office_state.specs.Images.{IsLeftBy}
pub use Rattle.office_state.specs.Journals.{Opens, OpensToNone}
pub use Rattle.outside_io.specs.Streams.{AppendsPart}
pub use Rattle.outside_io.specs.declared.disks.Disk.{Ghosts}
pub use Rattle.policy_machine.specs.History.{IsDue, commands_after, opened_on, Opening}
pub use Rattle.policy_machine.specs.Merge.{pin_call}
pub use Rattle.policy_types.specs.declared.command.Command.{Command}
pub use Rattle.policy_types.specs.declared.entry.At.{At}
pub use Rattle.policy_types.specs.declared.entry.At.TheVariants.{Now, Position}
pub use Rattle.policy_types.specs.declared.policy.Policy.{Policy}
pub use Rattle.policy_value.specs.declared.worth.Measure.{Measure}
pub use Rattle.program_endings.proofs.ReadOnlySteps.{read_as_before, read_refused, read_to_end, ends_refused, opens_to_none}
pub use Rattle.program_endings.specs.Writing.{Stream, WroteAll, Shelving}
pub use Rattle.program_endings.specs.declared.ending.Ending.{Ending}
pub use Rattle.program_endings.specs.declared.ending.Ending.TheVariants.{Done, WriteFault, NoMemory, Ahead, Usage, BadBasis, BadJournal, DiskFault}
unfoldable pub use Rattle.report_text.specs.Block.{total_text, heading_text, row_text}
pub use Rattle.report_text.specs.Block.{block_text}
pub use Rattle.shared_office.specs.Offices.{OfficeOpening, IsOfficeHistory}
pub use Rattle.policy_value.specs.Rows.{IsValuedRow}
pub use Rattle.snapshot_value.specs.Valuing.{HasValued, AnswersPin as IsValueAnswer, AnswersPin, IsSnapshot}
pub use Rattle.snapshot_value.specs.declared.valuation.ValueFault.{ValueFault}
pub use Rattle.turn_lock.specs.Passes.{Holding, PassFacts}
pub use Rattle.valuing_modes.proofs.Parts.{EndsProjecting, EndsValuing, IsAhead, IsProjected, IsValued}
pub use Rattle.valuing_modes.specs.Projecting.{IsProjectionText, EndsProject}
pub use Rattle.valuing_modes.specs.Valuing.{IsValuation, position_of, IsBeyond, EndsValue}

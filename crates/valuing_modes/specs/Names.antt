-- The names from elsewhere that several modules cite, passed on from one place. Declares nothing.
pub use Rattle.std.specs.List.{AllZip, All}
pub use Rattle.basis_book.specs.Dated.{Dated}
pub use Rattle.cash_projection.specs.Text.{projection_text, IsTellable}
pub use Rattle.cash_projection.specs.declared.printing.Projection.{Projection}
pub use Rattle.life_dates.specs.Calendar.{IsDay, IsTermDay}
pub use Rattle.lone_office.specs.Beginning.{EndsOverBasis}
pub use Rattle.office_state.specs.Images.{IsLeftBy}
pub use Rattle.office_state.specs.Journals.{Opens}
pub use Rattle.outside_io.specs.Faults.{Rose}
pub use Rattle.outside_io.specs.Streams.{AppendsPart}
pub use Rattle.outside_io.specs.declared.disks.Disk.{Ghosts}
pub use Rattle.policy_machine.specs.Book.{book}
pub use Rattle.policy_machine.specs.History.{opened_on}
pub use Rattle.policy_types.specs.declared.command.Command.{Command}
pub use Rattle.policy_types.specs.declared.entry.At.{At}
pub use Rattle.policy_types.specs.declared.entry.At.TheVariants.{Now, Position}
pub use Rattle.policy_value.specs.declared.worth.Measure.{Measure}
pub use Rattle.policy_value.specs.declared.worth.Measure.TheVariants.{Terminal, Mean, Deficiency}
pub use Rattle.program_endings.specs.Holding.{HoldsStill}
pub use Rattle.program_endings.specs.Texts.{EndsReadOnly}
pub use Rattle.program_endings.specs.Writing.{Stream, WroteLine, WroteAll, shelf_between, Shelving, between}
pub use Rattle.program_endings.specs.declared.ending.Ending.{Ending}
pub use Rattle.program_endings.specs.declared.ending.Ending.TheVariants.{Ahead, Done, ReadFault, NoMemory, WriteFault}
pub use Rattle.report_text.specs.Block.{block_text}
pub use Rattle.snapshot_value.specs.declared.valuation.ValueFault.{ValueFault}

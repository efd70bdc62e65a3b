-- The names from elsewhere that several rooms cite, passed on from one place. Declares nothing.
pub use Rattle.basis_book.specs.Dated.{Dated, AreBounded}
pub use Rattle.basis_book.specs.File.{IsBasisFile, IsFileFault}
pub use Rattle.basis_book.specs.declared.fault.BasisFault.{BasisFault}
pub use Rattle.basis_book.specs.declared.row.BasisRow.{BasisRow, BasisRow as ARow}
pub use Rattle.outside_io.specs.Faults.{Rose}
pub use Rattle.outside_io.specs.Shelves.{AsksOnly, Files}
pub use Rattle.select_rates.specs.declared.any.AnyTable.{AnyTable}
pub use Rattle.xtbml_subset.specs.AnyChecks.{IsAnyAnswer, SpellsAny}
pub use Rattle.xtbml_subset.specs.declared.fault.TableKind.{TableKind}

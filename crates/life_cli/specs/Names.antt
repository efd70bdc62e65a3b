-- The names from elsewhere that several modules cite, passed on from one place. Declares nothing.
pub use Rattle.life_app.specs.Headline.{IsGivenBasis, IsPromised, IsUnrun}
pub use Rattle.life_app.specs.Needs.{With, filing_between}
pub use Rattle.life_app.specs.Obeys.{Obeys}
pub use Rattle.office_state.specs.Journals.{OpensToNone, Opens}
pub use Rattle.outside_io.specs.declared.disks.Disk.{Ghosts}
pub use Rattle.program_endings.specs.Writing.{Input, Shelving, Stream, between, input_between, shelf_between, IsWholeInput}

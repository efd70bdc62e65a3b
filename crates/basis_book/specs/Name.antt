-- The file name of a basis or a table: that of a file on a shelf. Declares nothing.
pub use Rattle.outside_io.specs.FileNames.{IsName, IsNameByte}

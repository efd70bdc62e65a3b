-- The names from elsewhere that several modules cite, passed on from one place. Declares nothing.
pub use Rattle.outside_io.specs.Disks.{Only, HasDiskCause, Elapses, LeavesOnly, Torn, Writes}
pub use Rattle.outside_io.specs.Faults.{Rose}
pub use Rattle.outside_io.specs.declared.disks.Disk.{Ghosts}

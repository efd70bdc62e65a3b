-- The names that several proofs cite, passed on from one place. Declares nothing.
pub use Rattle.std.proofs.Common.{◌≡◌, refl, arith, ℕ, ◌≤◌, true, false, List, [], ◌∷◌, length, take, Bool, cond, nat_le, ◌++◌, ap, ◌∙◌, drop, Vec, sym, Option, Some, None, IsSome, ◌-◌, zero, suc, ◌⊎◌, inl, inr, ◌+◌, ◌<◌, length-append, is_ok, Result, Ok, Err, IfOk}
pub use Rattle.std.proofs.lemmas.Bool.{le-leb, leb-true, cases_lt}
pub use Rattle.std.specs.Cmp.Derive.{both_true}
pub use Rattle.memory_disk.specs.First.{first_bytes}
pub use Rattle.memory_disk.specs.History.{reaching, images_after, IsImage, all_within, torn_after, bytes_after, WasImage, kept_after, image_of_writes, WritesNothing, put_within}
pub use Rattle.memory_disk.specs.HistoryLaws.{length-reaching, both_of, bytes_as_image}
pub use Rattle.memory_disk.specs.declared.disk_call.DiskCall.{DiskCall}
pub use Rattle.memory_disk.specs.declared.disk_call.DiskCall.TheVariants.{Write, Len, Read, Sync}
pub use Rattle.outside_io.specs.DiskLaws.{torn_put, torn_same, length-put}
pub use Rattle.outside_io.specs.Disks.{put, Torn, Elapses, Looks, Only, Follows}

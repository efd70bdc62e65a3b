-- What a disk in memory shows.
use Rattle.std.specs.Prelude.{◌≡◌, ◌⊎◌, ℕ, List, [], ◌∷◌, ◌++◌, Result, IsErr}
use Rattle.outside_io.specs.Disks.{HasDiskCause, Looks}
use Rattle.outside_io.specs.declared.fault_plan.FaultPlan.{FaultPlan}
use Rattle.outside_io.specs.Plans.{plan_calls, plan_failing, plan_faults, number_after, FailsNext}
use Rattle.memory_disk.specs.First.{first_bytes}
use Rattle.memory_disk.specs.History.{IsImage, GoesOnFrom}
use Rattle.memory_disk.specs.declared.disk_call.DiskCall.{DiskCall}
use Rattle.memory_disk.specs.declared.in_memory.MemoryDisk.{MemoryDisk}

-- the bytes that the disk had at first
abbrev pub disk_first : MemoryDisk → List ℕ
disk_first disk = first_bytes disk.history.first disk.history.bytes

-- the bytes that a read gives
abbrev pub disk_bytes : MemoryDisk → List ℕ
disk_bytes disk = disk.history.bytes.items

-- its calls, in order, except those for whose record memory was refused
abbrev pub disk_calls : MemoryDisk → List DiskCall
disk_calls disk = disk.history.calls.items

-- the calls that are to fail, and those that were made
abbrev pub disk_plan : MemoryDisk → FaultPlan
disk_plan disk = disk.plan

-- the record of calls has this call too; or it is as it was, since memory for the record was refused
abbrev pub KeepsOrAdds : List DiskCall → List DiskCall → DiskCall → Type 0
KeepsOrAdds old new call = (new ≡ old) ⊎ (new ≡ old ++ call ∷ [])

-- a call whose number was to fail has failed, and one more call was made
pub record FollowsPlan {T E : Type 0} (before now : FaultPlan) (result : Result T E) : Type 0 where
  pub fails : FailsNext before → IsErr result
  pub counted : plan_calls now ≡ number_after (plan_calls before)
  pub stays : plan_failing now ≡ plan_failing before

-- the images that a crash may leave
abbrev pub images_of : MemoryDisk → List ℕ → Type 0
images_of disk = IsImage (disk_first disk) (disk_calls disk)

-- nothing was written between two moments
abbrev pub LooksAt : MemoryDisk → MemoryDisk → Type 0
LooksAt old new = Looks (disk_bytes old) (disk_bytes new) (images_of old) (images_of new)

-- time went on between them
abbrev pub GoesOn : MemoryDisk → MemoryDisk → Type 0
GoesOn old new = GoesOnFrom (disk_first old) (disk_calls old) (disk_first new) (disk_calls new)

-- a fault is reported exactly if one was counted
abbrev pub CountsFaults : {T E : Type 0} → MemoryDisk → MemoryDisk → Result T E → Type 0
CountsFaults old new result = HasDiskCause (plan_faults old.plan) (plan_faults new.plan) result

-- What is told of the streams in memory.
use Rattle.std.specs.Prelude.{ℕ, List, Option, take, drop, Vec, String, IsTrue}
use Rattle.std.specs.Option.{option_map}
use Rattle.std.specs.BTreeMap.{BTreeMap, get_by_text}
use Rattle.std.specs.declared.alloc.Global.{Global}
use Rattle.outside_io.specs.declared.bytes_in.BytesSource.{BytesSource}
use Rattle.outside_io.specs.declared.bytes_out.BytesSink.{BytesSink}
use Rattle.outside_io.specs.declared.disks.Disk.{Ghosts}
use Rattle.outside_io.specs.declared.map_shelf.MapShelf.{MapShelf}
use Rattle.outside_io.specs.declared.fault_plan.FaultPlan.{FaultPlan}

-- the calls that are to fail, and those that were made
abbrev pub source_plan : BytesSource → FaultPlan
source_plan source = source.plan

-- the bytes that are left
abbrev pub source_left : BytesSource → List ℕ
source_left source = drop source.taken source.bytes.items

-- the bytes that were given
abbrev pub source_given : BytesSource → List ℕ
source_given source = take source.taken source.bytes.items

-- a read gave none into a buffer that isn't empty
abbrev pub SourceEnded : BytesSource → Type 0
SourceEnded source = IsTrue source.ended

-- the calls that are to fail, and those that were made
abbrev pub sink_plan : {D : Type 0} {g : Ghosts D} → BytesSink D g → FaultPlan
sink_plan sink = sink.plan

-- the bytes that were written
abbrev pub sink_bytes : {D : Type 0} {g : Ghosts D} → BytesSink D g → List ℕ
sink_bytes sink = sink.bytes.items

-- the bytes at a name of the map, where it has the name
abbrev pub map_at : BTreeMap (String Global) (Vec ℕ Global) → List ℕ → Option (List ℕ)
map_at files name = option_map (λ bytes. bytes.items) (get_by_text files name)

-- the bytes at a name of the shelf, where it has the name
abbrev pub shelf_at : MapShelf → List ℕ → Option (List ℕ)
shelf_at shelf = map_at shelf.files

-- the calls that are to fail, and those that were made
abbrev pub shelf_plan : MapShelf → FaultPlan
shelf_plan shelf = shelf.plan

-- the names that the shelf was asked for, the newest first
abbrev pub shelf_asked : MapShelf → List (List ℕ)
shelf_asked shelf = shelf.asked

-- Reading a disk from its first byte to its last, and what a fault of that shows.
use Rattle.std.specs.Prelude.{◌≡◌, ⊤, ℕ, ◌≤◌, Bool, false, List, length, take}
use Rattle.wan_edge.specs.Streams.{Rose}
use Rattle.disk_model.specs.Crashes.{Within}
use Rattle.disk_model.specs.Moments.{LeavesOnly}
use Rattle.disk_model.specs.Traces.{DiskTrace}
use Rattle.disk_model.specs.declared.read_fault.ReadFault.{ReadFault}
use Rattle.disk_model.specs.declared.read_fault.ReadFault.TheVariants.{Disk, Memory}

-- what was read is the front of all the bytes; where no more is read, it is all of them
pub record Reads (more : Bool) (old new all : List ℕ) : Type 0 where
  pub goes_on : old ≡ take (length old) all → new ≡ take (length new) all
  pub ends : more ≡ false → length all ≤ length new

-- Nothing was written: the disk tells what it told, and a crash at any moment leaves what it might have left before.
pub record IsQuiet {D : Type 0} (trace : D → DiskTrace) (old new : D) : Type 0 where
  pub same : (trace new).bytes ≡ (trace old).bytes
  pub crash : Within (trace new).may_leave (trace old).may_leave
  pub run : LeavesOnly trace old new (trace old).may_leave

-- The disk failed, and its count rose; or memory ran out.
abbrev pub IsReadFault : ReadFault → ℕ → ℕ → Type 0
IsReadFault Disk old new = Rose old new
IsReadFault Memory old new = ⊤

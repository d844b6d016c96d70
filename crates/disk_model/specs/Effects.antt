-- What a call of a disk may change of what it tells.
use Rattle.std.specs.Prelude.{◌≡◌, ℕ, ◌≤◌}
use Rattle.wan_edge.specs.Streams.{KeepsTelling, Rose}
use Rattle.disk_model.specs.Crashes.{Stepped, Within}
use Rattle.disk_model.specs.Moments.{GoesOn}
use Rattle.disk_model.specs.Traces.{DiskTrace}
use Rattle.disk_model.specs.Writes.{Torn}

-- A call that writes nothing: the bytes stay, and a crash leaves what it might have left before.
pub record WritesNothing (before now : DiskTrace) : Type 0 where
  pub same : now.bytes ≡ before.bytes
  pub crash : Within now.may_leave before.may_leave
  pub time : GoesOn before now now.may_leave
  pub count : before.faults ≤ now.faults

-- A call that writes so many bytes at a place, all of them or some: a crash leaves what it might have left before, with the write torn.
pub record WritesSome (at n : ℕ) (before now : DiskTrace) : Type 0 where
  pub told : KeepsTelling before.bytes now.bytes
  pub crash : Within now.may_leave (Stepped (Torn at n) before.may_leave)
  pub time : GoesOn before now now.may_leave
  pub count : before.faults ≤ now.faults

-- a call that failed was counted
abbrev pub HasFailed : DiskTrace → DiskTrace → Type 0
HasFailed before now = Rose before.faults now.faults

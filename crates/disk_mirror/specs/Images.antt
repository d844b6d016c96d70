-- What reading an image from its first byte to its last leaves.
use Rattle.std.specs.Prelude.{◌≡◌}
use Rattle.disk_model.specs.Crashes.{Within}
use Rattle.disk_model.specs.Moments.{GoesOn}
use Rattle.disk_model.specs.Traces.{DiskTrace}

-- Nothing was written: the bytes stay, and a crash at any moment leaves what it might have left before.
pub record IsLeftAlone (before now : DiskTrace) : Type 0 where
  pub same : now.bytes ≡ before.bytes
  pub crash : Within now.may_leave before.may_leave
  pub time : GoesOn before now before.may_leave

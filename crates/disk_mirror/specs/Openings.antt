-- What the opening of a disk may change of what it tells.
use Rattle.std.specs.Prelude.{◌≡◌, ℕ, ◌≤◌, List, length, Option, Some, None, IfSome, IsSome}
use Rattle.disk_model.specs.Crashes.{Within}
use Rattle.disk_model.specs.Moments.{GoesOn}
use Rattle.disk_model.specs.Traces.{DiskTrace}

-- these bytes are told
abbrev pub IsTold : Option (List ℕ) → Type 0
IsTold told = IsSome told

-- Told bytes are told still, and then a crash leaves what it might have left before.
pub record Opens (before now : DiskTrace) : Type 0 where
  pub same : IfSome before.bytes (λ all. now.bytes ≡ Some all)
  -- a crash leaves no more than it might have left, now and at each moment
  pub crash : IfSome before.bytes (λ _. Within now.may_leave before.may_leave)
  pub time : IfSome before.bytes (λ _. GoesOn before now now.may_leave)
  pub count : before.faults ≤ now.faults

-- Where nothing was told before, no more bytes than these are told.
abbrev pub OpensWithin : ℕ → DiskTrace → DiskTrace → Type 0
OpensWithin most before now = before.bytes ≡ None → IfSome now.bytes (λ all. length all ≤ most)

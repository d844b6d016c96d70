-- What a disk tells of itself.
use Rattle.std.specs.Prelude.{ℕ, List, Option}

pub record DiskTrace : Type 1 where
  -- the bytes that a read gives, where they are told
  pub bytes : Option (List ℕ)
  -- what a crash now may leave
  pub may_leave : List ℕ → Type 0
  -- the moment, as a number that never falls
  pub moment : ℕ
  -- what a crash at some moment from that one on may have left, in a call or between two
  pub left_since : ℕ → List ℕ → Type 0
  -- how often the disk has failed
  pub faults : ℕ

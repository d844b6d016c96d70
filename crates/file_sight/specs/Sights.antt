-- All of a file that another may write meanwhile is read, in order, and then once more. A source is given by what it tells; what stood between two readings is
-- a state of its own, which a call of it has left.
use Rattle.std.specs.Prelude.{◌≡◌, ◌≢◌, ◌⊎◌, ⊤, ℕ, List, [], take, Some, IfSome, Result, Ok, Err}
use Rattle.wan_edge.specs.ReadAll.{GoesBeyond, IsWhole}
use Rattle.wan_edge.specs.Streams.{Rose, SourceTrace}
use Rattle.wan_edge.specs.declared.reading.ReadFault.{ReadFault}
use Rattle.wan_edge.specs.declared.reading.ReadFault.TheVariants as reading
use Rattle.file_sight.specs.declared.unseen.Unseen.{Unseen}
use Rattle.file_sight.specs.declared.unseen.Unseen.TheVariants.{Failed, InUse, Memory}

-- the next read begins at the first byte again, and what was taken counts from there
pub record Rewinds (before now : SourceTrace) : Type 0 where
  pub taken : IfSome before.taken (λ bytes. now.taken ≡ Some [])
  pub faults : now.faults ≡ before.faults

-- why a file wasn't seen that couldn't be read
abbrev pub unseen_of : ReadFault → Unseen
unseen_of reading.Failed = Failed
unseen_of reading.TooLong = Failed
unseen_of reading.Memory = Memory

-- All the bytes were read, from the first to the end.
pub record IsRead {W : Type 0} (trace : W → SourceTrace) (limit : ℕ) (before now : W) (bytes : List ℕ) : Type 0 where
  pub first : W
  pub rewinds : Rewinds (trace before) (trace first)
  pub all : IsWhole limit (trace first) bytes (trace now)

-- They weren't: a read failed, or there are more than the limit.
pub record IsUnread {W : Type 0} (trace : W → SourceTrace) (limit : ℕ) (before now : W) : Type 0 where
  pub first : W
  pub rewinds : Rewinds (trace before) (trace first)
  pub cause : Rose (trace first).faults (trace now).faults ⊎ GoesBeyond limit (trace first) (trace now)

abbrev pub ReadsAll : {W : Type 0} → (W → SourceTrace) → ℕ → W → Result (List ℕ) Unseen → W → Type 0
ReadsAll trace limit before (Ok bytes) now = IsRead trace limit before now bytes
ReadsAll trace limit before (Err Failed) now = IsUnread trace limit before now
ReadsAll trace limit before (Err InUse) now = ⊥
ReadsAll trace limit before (Err Memory) now = ⊤

-- how many of the first bytes are compared
abbrev pub front_length : ℕ
front_length = 35

-- All the bytes were read, and read once more there was the same front.
pub record IsSeen {W : Type 0} (trace : W → SourceTrace) (limit : ℕ) (before now : W) (bytes : List ℕ) : Type 0 where
  pub between : W
  pub read : IsRead trace limit before between bytes
  pub later : List ℕ
  pub again : IsRead trace limit between now later
  pub still : take front_length later ≡ take front_length bytes

-- All the bytes were read, and read once more there was another front.
pub record HasMoved {W : Type 0} (trace : W → SourceTrace) (limit : ℕ) (before now : W) : Type 0 where
  pub bytes : List ℕ
  pub between : W
  pub read : IsRead trace limit before between bytes
  pub later : List ℕ
  pub again : IsRead trace limit between now later
  pub moved : take front_length later ≢ take front_length bytes

-- All the bytes were read, and once more they couldn't be.
pub record IsUnreadAgain {W : Type 0} (trace : W → SourceTrace) (limit : ℕ) (before now : W) : Type 0 where
  pub bytes : List ℕ
  pub between : W
  pub read : IsRead trace limit before between bytes
  pub unread : IsUnread trace limit between now

-- what a look says of the file before and now
abbrev pub Looks : {W : Type 0} → (W → SourceTrace) → ℕ → W → Result (List ℕ) Unseen → W → Type 0
Looks trace limit before (Ok bytes) now = IsSeen trace limit before now bytes
Looks trace limit before (Err Failed) now = IsUnread trace limit before now ⊎ IsUnreadAgain trace limit before now
Looks trace limit before (Err InUse) now = HasMoved trace limit before now
Looks trace limit before (Err Memory) now = ⊤

-- the same of a second reading, after one that gave these bytes, wherever that began
abbrev pub LooksBehind : {W : Type 0} → (W → SourceTrace) → ℕ → W → List ℕ → Result (List ℕ) Unseen → W → Type 0
LooksBehind {W} trace limit between bytes answer now = (before : W) → IsRead trace limit before between bytes → Looks trace limit before answer now

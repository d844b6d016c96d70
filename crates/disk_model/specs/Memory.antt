-- What a disk in memory is seen as: its bytes, the writes since the last sync, what stood before, and which calls fail.
use Rattle.std.specs.Prelude.{◌≡◌, ◌⊎◌, ℕ, nat_le, Bool, true, false, List, [], ◌∷◌, ◌++◌, length, drop, Option, Some, None, if◌then◌else◌}
use Rattle.wan_edge.specs.FailingTurns as turns
use Rattle.wan_edge.specs.FailingTurns.{Turning}
use Rattle.disk_model.specs.Traces.{DiskTrace}
use Rattle.disk_model.specs.Writes.{Torn, written}

-- what a read gives, what was on the disk at the last sync, and the place and length of each write since then
pub record Medium : Type 0 where
  pub bytes : List ℕ
  pub synced : List ℕ
  pub pending : List (ℕ × ℕ)

-- a medium with these bytes, all of them on the disk
abbrev pub at_rest : List ℕ → Medium
at_rest bytes = record { bytes = bytes; synced = bytes; pending = [] }

abbrev pub after_write : ℕ → List ℕ → Medium → Medium
after_write at bytes medium = record {
  bytes = written at bytes medium.bytes;
  synced = medium.synced;
  pending = medium.pending ++ (at, length bytes) ∷ [];
}

-- these writes, one after the other and each of them torn, make this image of that one
abbrev pub Reaches : List ℕ → List (ℕ × ℕ) → List ℕ → Type 0
Reaches synced [] c = c ≡ synced
Reaches synced (write ∷ later) c = (b : List ℕ) × Torn write.0 write.1 synced b × Reaches b later c

-- what a crash may leave: the bytes that a read gives, or what was synced with the writes since then torn
abbrev pub MayLeave : Medium → List ℕ → Type 0
MayLeave medium c = (c ≡ medium.bytes) ⊎ Reaches medium.synced medium.pending c

-- the medium as it stands, and as it stood before each write and each sync
pub record Timeline : Type 0 where
  pub medium : Medium
  pub past : List Medium

-- the medium becomes this one
abbrev pub moves_to : Timeline → Medium → Timeline
moves_to timeline medium = record { medium = medium; past = timeline.past ++ timeline.medium ∷ [] }

-- a crash at one of these may have left this
abbrev pub MayHaveLeft : List Medium → List ℕ → Type 0
MayHaveLeft [] c = ⊥
MayHaveLeft (medium ∷ later) c = MayLeave medium c ⊎ MayHaveLeft later c

-- what a crash may have left since the moment when this many had been
abbrev pub LeftSince : Timeline → ℕ → List ℕ → Type 0
LeftSince timeline moment c = MayLeave timeline.medium c ⊎ MayHaveLeft (drop moment timeline.past) c

-- the calls that fail by themselves, and the call from which on all fail
pub record Calls : Type 0 where
  pub turns : Turning
  pub stop : Option ℕ

-- before the first call
abbrev pub fresh : List ℕ → Calls
fresh fails = record { turns = turns.fresh fails; stop = None }

-- whether a call with this number comes at the stop or after it
abbrev pub is_stopped : Option ℕ → ℕ → Bool
is_stopped None number = false
is_stopped (Some call) number = nat_le call number

-- whether the next call is one of those that fail
abbrev pub fails_now : Calls → Bool
fails_now calls = if turns.fails_now calls.turns then true else is_stopped calls.stop calls.turns.next

-- after a call that failed, or did not
abbrev pub after_call : Calls → Bool → Calls
after_call calls failed = record { turns = turns.after_call calls.turns failed; stop = calls.stop }

-- a disk in memory
pub record Storing : Type 0 where
  pub timeline : Timeline
  pub calls : Calls

-- what it tells: the medium's bytes, and its moment as how often the medium has moved
abbrev pub trace_of : Storing → DiskTrace
trace_of disk = record {
  bytes = Some disk.timeline.medium.bytes;
  may_leave = MayLeave disk.timeline.medium;
  moment = length disk.timeline.past;
  left_since = LeftSince disk.timeline;
  faults = disk.calls.turns.failures;
}

-- A disk whose bytes are in memory: what it is seen as, what it tells, and how it is tied to the disk behind it.
use Rattle.std.specs.Prelude.{◌≡◌, ⊤, ℕ, ◌≤◌, length, Bool, List, Option, Some, None, IfSome, IsTrue}
use Rattle.std.specs.Option.{option_map}
use mathlib.Core.Logic.{inl}
use Rattle.std.proofs.Common.{refl}
use Rattle.disk_model.specs.Crashes.{Within}
use Rattle.disk_model.specs.Memory.{LeftSince, MayLeave, Reaches, Timeline, after_write, at_rest, moves_to}
use Rattle.disk_model.specs.Past as past
use Rattle.disk_model.specs.Traces.{DiskTrace}

-- The disk behind; the bytes in memory with all that they were, once they were read; how many there may be; whether they were read and each call of
-- the disk behind has succeeded since; and how many calls have failed.
pub record Mirrored (D : Type 0) : Type 0 where
  pub disk : D
  pub course : Option Timeline
  pub most : ℕ
  pub live : Bool
  pub faults : ℕ

-- What is told: nothing where nothing was read, else what a disk in memory tells.
abbrev pub bytes_in : Option Timeline → Option (List ℕ)
bytes_in course = option_map (λ t. t.medium.bytes) course

abbrev pub may_leave_in : Option Timeline → List ℕ → Type 0
may_leave_in None c = ⊤
may_leave_in (Some timeline) c = MayLeave timeline.medium c

abbrev pub moment_in : Option Timeline → ℕ
moment_in None = 0
moment_in (Some timeline) = length timeline.past

abbrev pub left_in : Option Timeline → ℕ → List ℕ → Type 0
left_in None t c = ⊤
left_in (Some timeline) t c = LeftSince timeline t c

abbrev pub trace_in : Option Timeline → ℕ → DiskTrace
trace_in course faults = record {
  bytes = bytes_in course;
  may_leave = may_leave_in course;
  moment = moment_in course;
  left_since = left_in course;
  faults = faults;
}

abbrev pub trace_of : {D : Type 0} → Mirrored D → DiskTrace
trace_of mirror = trace_in mirror.course mirror.faults

-- What the disk behind tells is what is in memory, as long as each of its calls succeeds; and a crash leaves of it what is told here.
pub record Mirrors (behind : DiskTrace) (course : Option Timeline) (live : Bool) : Type 0 where
  pub same : IsTrue live → IfSome course (λ t. IfSome behind.bytes (λ all. all ≡ t.medium.bytes))
  pub crash : IfSome course (λ t. IfSome behind.bytes (λ _. Within behind.may_leave (MayLeave t.medium)))
  -- and what is in memory is one of the images that a crash may leave by the writes alone
  pub reached : IfSome course (λ t. Reaches t.medium.synced t.medium.pending t.medium.bytes)

-- there are no more bytes in memory than these
abbrev pub IsWithin : ℕ → Option Timeline → Type 0
IsWithin most course = IfSome course (λ t. length t.medium.bytes ≤ most)

-- the bytes are written over, and not synced
abbrev pub written_in : ℕ → List ℕ → Option Timeline → Option Timeline
written_in at bytes course = option_map (λ t. moves_to t (after_write at bytes t.medium)) course

-- all the bytes are synced
abbrev pub synced_in : Option Timeline → Option Timeline
synced_in course = option_map (λ t. moves_to t (at_rest t.medium.bytes)) course

pub shows_one : (course : Option Timeline) → IfSome (bytes_in course) (may_leave_in course)
shows_one None = tt
shows_one (Some timeline) = inl refl

pub counts_now : (course : Option Timeline) (t : ℕ) (c : List ℕ) → t ≤ moment_in course → may_leave_in course c → left_in course t c
counts_now None t c earlier now = tt
counts_now (Some timeline) t c earlier now = inl now

pub only_now : (course : Option Timeline) (c : List ℕ) → left_in course (moment_in course) c → may_leave_in course c
only_now None c left = tt
only_now (Some timeline) c left = past.only_now timeline c left

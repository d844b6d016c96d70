-- What goes in and out of an outside object. What an object tells is Some, and what it does not tell is None.
use Rattle.std.specs.Prelude.{◌≡◌, ◌⊎◌, ℕ, ◌<◌, ◌≤◌, ◌-◌, ◌^◌, List, [], ◌++◌, length, take, Option, None, is_some, IfSome}
use Rattle.std.specs.Option.{option_map}

-- a count of failures has gone up, or stands at the last value of u64, where a program's counter stops
abbrev pub Rose : ℕ → ℕ → Type 0
Rose before now = (before < now) ⊎ (2 ^ 64 - 1 ≤ now)

-- what was told is told still, and what was not told isn't
abbrev pub KeepsTelling : {T : Type 0} → Option T → Option T → Type 0
KeepsTelling before now = is_some now ≡ is_some before

-- what was left began with these bytes, and the rest is left now
abbrev pub TakesFrom : Option (List ℕ) → List ℕ → Option (List ℕ) → Type 0
TakesFrom before bytes now = before ≡ option_map (λ rest. bytes ++ rest) now

-- nothing is left
abbrev pub IsAtEnd : Option (List ℕ) → Type 0
IsAtEnd left = IfSome left (λ rest. rest ≡ [])

-- what was written now has these bytes at its end
abbrev pub Appends : Option (List ℕ) → List ℕ → Option (List ℕ) → Type 0
Appends before bytes now = now ≡ option_map (λ written. written ++ bytes) before

-- some of the bytes were appended from the front, and not all of them
pub record AppendsPart (before : Option (List ℕ)) (bytes : List ℕ) (now : Option (List ℕ)) : Type 0 where
  pub count : ℕ
  pub not_all : count < length bytes
  pub appended : Appends before (take count bytes) now

-- ---- sources

-- All that a source tells: the bytes still to come, and those that its reads have given, each where it is told; and how often it has failed.
pub record SourceTrace : Type 0 where
  pub left : Option (List ℕ)
  pub taken : Option (List ℕ)
  pub faults : ℕ

-- what an object tells that is no source
abbrev pub no_source : SourceTrace
no_source = record { left = None; taken = None; faults = 0 }

-- these bytes were read: what was left began with them, and what was taken ends in them
pub record Takes (bytes : List ℕ) (before now : SourceTrace) : Type 0 where
  pub left : TakesFrom before.left bytes now.left
  pub taken : Appends before.taken bytes now.taken

-- so many bytes were read, the first of these, and none only at the end
pub record Reads (count : ℕ) (bytes : List ℕ) (before now : SourceTrace) : Type 0 where
  pub takes : Takes (take count bytes) before now
  pub at_end : count ≡ 0 → IsAtEnd before.left

-- the source failed, and nothing was read
pub record FailsToRead (before now : SourceTrace) : Type 0 where
  pub left : now.left ≡ before.left
  pub taken : now.taken ≡ before.taken
  pub cause : Rose before.faults now.faults

-- What holds of each read, and of any number of them: the faults don't become fewer, and what was told is told still.
pub record SourceSteps (before now : SourceTrace) : Type 0 where
  pub count : before.faults ≤ now.faults
  pub left_told : KeepsTelling before.left now.left
  pub taken_told : KeepsTelling before.taken now.taken

-- ---- sinks

-- All that a sink tells: the bytes that it took, where they are told, and how often it has failed.
pub record SinkTrace : Type 0 where
  pub written : Option (List ℕ)
  pub faults : ℕ

-- what an object tells that is no sink
abbrev pub no_sink : SinkTrace
no_sink = record { written = None; faults = 0 }

-- so many bytes were written, the first of these: some, where there are any
pub record Writes (count : ℕ) (bytes : List ℕ) (before now : SinkTrace) : Type 0 where
  pub some : 0 < length bytes → 0 < count
  pub written : Appends before.written (take count bytes) now.written

-- the sink failed, and nothing was written
pub record FailsToWrite (before now : SinkTrace) : Type 0 where
  pub written : now.written ≡ before.written
  pub cause : Rose before.faults now.faults

-- What holds of each write, and of any number of them: the faults don't become fewer, and what was told is told still.
pub record SinkSteps (before now : SinkTrace) : Type 0 where
  pub count : before.faults ≤ now.faults
  pub told : KeepsTelling before.written now.written

-- What reading a source to its end comes to.
use Rattle.std.specs.Prelude.{◌≡◌, ℕ, ◌+◌, ◌≤◌, List, ◌++◌, length, IfSome, Result, Ok, Err}
use Rattle.wan_edge.specs.Streams.{Appends, FailsToRead, IsAtEnd, SourceTrace, Takes}
use Rattle.wan_edge.specs.declared.reading.ReadFault.{ReadFault}
use Rattle.wan_edge.specs.declared.reading.ReadFault.TheVariants.{Failed, Memory, TooLong}

-- these bytes are all that was left, and are within the limit; they were taken
pub record IsWhole (most : ℕ) (before : SourceTrace) (bytes : List ℕ) (now : SourceTrace) : Type 0 where
  pub within : length bytes ≤ most
  pub all : IfSome before.left (λ left. left ≡ bytes)
  pub at_end : IsAtEnd now.left
  pub taken : Appends before.taken bytes now.taken

-- one byte more than the limit was read
pub record GoesBeyond (most : ℕ) (before now : SourceTrace) : Type 0 where
  pub bytes : List ℕ
  pub beyond : length bytes ≡ most + 1
  pub takes : Takes bytes before now

-- no more than this many bytes were read
pub record StopsWithin (limit : ℕ) (before now : SourceTrace) : Type 0 where
  pub bytes : List ℕ
  pub within : length bytes ≤ limit
  pub takes : Takes bytes before now

-- what each answer says of the source before and now
abbrev pub ReadsToEnd : ℕ → SourceTrace → Result (List ℕ) ReadFault → SourceTrace → Type 0
ReadsToEnd most before (Ok bytes) now = IsWhole most before bytes now
ReadsToEnd most before (Err TooLong) now = GoesBeyond most before now
ReadsToEnd most before (Err Failed) now = StopsWithin most before now
ReadsToEnd most before (Err Memory) now = StopsWithin (most + 1) before now

-- this many of the next bytes were added, none only at the end
pub record AddsNext (room : ℕ) (before : SourceTrace) (bytes : List ℕ) (count : ℕ) (longer : List ℕ) (now : SourceTrace) : Type 0 where
  pub piece : List ℕ
  pub added : longer ≡ bytes ++ piece
  pub counted : length piece ≡ count
  pub within : count ≤ room
  pub takes : Takes piece before now
  pub at_end : count ≡ 0 → IsAtEnd now.left

-- what one more read says of the bytes that stand, and of the source before and now
abbrev pub ReadsMore : ℕ → SourceTrace → List ℕ → Result ℕ ReadFault → List ℕ → SourceTrace → Type 0
ReadsMore room before bytes (Ok count) longer now = AddsNext room before bytes count longer now
ReadsMore room before bytes (Err TooLong) longer now = ⊥
ReadsMore room before bytes (Err Failed) longer now = FailsToRead before now
ReadsMore room before bytes (Err Memory) longer now = StopsWithin room before now

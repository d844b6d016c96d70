-- What a log tells of the list on a disk.
use Rattle.std.specs.Prelude.{◌≡◌, ◌⊎◌, ⊤, ℕ, Bool, true, false, List, [], ◌++◌, length, Option, IfSome}
use Rattle.rollout_rules.specs.declared.op.Entry.{Entry}
use Rattle.disk_model.specs.Crashes.{IsDurable}
use Rattle.disk_model.specs.Traces.{DiskTrace}
use Rattle.intent_journal.specs.Reading.{Lists}
use Rattle.rollout_log.specs.declared.phase.Phase.{Phase}
use Rattle.rollout_log.specs.declared.phase.Phase.TheVariants.{Ended, Read, Unread, Written}
use Rattle.wan_edge.specs.Streams.{Appends, AppendsPart}
use Rattle.rollout_log.specs.Lines.{AreLines, lines_of, start_line}

-- The disk has stood so that its bytes stand for this list, and a crash left nothing else.
pub record Stood {D : Type 0} (trace : D → DiskTrace) (list : List Entry) : Type 0 where
  pub disk : D
  pub durable : IsDurable (trace disk).bytes (trace disk).may_leave
  pub lists : IfSome (trace disk).bytes (Lists list)

-- The text has the line of a start, with how many entries a durable list had, and after it a line for each of the entries that stand after these in another.
pub record Tells {D : Type 0} (trace : D → DiskTrace) (list : List Entry) (text : List ℕ) : Type 0 where
  pub found : List Entry
  pub was : Stood trace found
  pub past : List Entry
  pub is_list : list ≡ found ++ past
  pub ms : ℕ
  pub rest : List ℕ
  pub is : text ≡ start_line ms (length found) ++ rest
  pub lines : AreLines past rest

-- The text is a front of the lines of a list that was durable.
pub record IsFront {D : Type 0} (trace : D → DiskTrace) (text : List ℕ) : Type 0 where
  pub list : List Entry
  pub more : List ℕ
  pub stood : Stood trace list
  pub tells : Tells trace list (text ++ more)

-- or nothing was written
abbrev pub IsLog : {D : Type 0} → (D → DiskTrace) → List ℕ → Type 0
IsLog trace text = (text ≡ []) ⊎ IsFront trace text

-- all the lines of this list, which was durable
pub record IsWhole {D : Type 0} (trace : D → DiskTrace) (list : List Entry) (text : List ℕ) : Type 0 where
  pub stood : Stood trace list
  pub tells : Tells trace list text

-- what was written by how far a log has come, of which this list is known
abbrev pub IsSoFar : {D : Type 0} → (D → DiskTrace) → Phase → List Entry → List ℕ → Type 0
IsSoFar trace Unread known = λ text. text ≡ []
IsSoFar trace Read known = λ text. (text ≡ []) × Stood trace known
IsSoFar trace Written known = IsWhole trace known
IsSoFar trace Ended known = IsLog trace

-- how far a log has come to which nothing was written: where none is asked for, it has ended
abbrev pub first_phase : Bool → Phase
first_phase true = Unread
first_phase false = Ended

-- whether lines are written from here on, and whether that of the start is still to come
abbrev pub GoesOn : Phase → Type 0
GoesOn Unread = ⊥
GoesOn Read = ⊤
GoesOn Written = ⊤
GoesOn Ended = ⊥

abbrev pub is_first : Phase → Bool
is_first Unread = false
is_first Read = true
is_first Written = false
is_first Ended = false

-- How far a log has come that was to write the lines of these entries: it has written them all, or, where it ends, nothing or a front of them.
abbrev pub WritesLines : Bool → ℕ → List Entry → Option (List ℕ) → Phase → Option (List ℕ) → Type 0
WritesLines first found entries before Unread now = ⊥
WritesLines first found entries before Read now = ⊥
WritesLines first found entries before Written now = (ms : ℕ) × Appends before (lines_of first ms found entries) now
WritesLines first found entries before Ended now = (now ≡ before) ⊎ ((ms : ℕ) × AppendsPart before (lines_of first ms found entries) now)

-- a disk, a log of it, the list that is known, and how far the log has come
pub record Logging (D L : Type 0) : Type 0 where
  pub disk : D
  pub log : L
  pub known : List Entry
  pub phase : Phase

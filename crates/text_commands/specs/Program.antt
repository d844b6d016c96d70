-- What a run of the program does, by what it read, wrote and noted.
use Rattle.std.specs.Prelude.{◌≡◌, ◌≢◌, ◌⊎◌, ◌↔◌, ◌==◌, ℕ, List, [], ◌∷◌, Option, None, IsTrue}
use Rattle.std.specs.List.{list_any}
use Rattle.wan_edge.specs.Streams.{Rose, SinkTrace, SourceTrace}
use Rattle.text_commands.specs.CommandEnds.{status_of}
use Rattle.text_commands.specs.Runs.{Notes}
use Rattle.text_commands.specs.Uses.{Uses}
use Rattle.text_commands.specs.declared.command_end.CommandEnd.{CommandEnd}

-- what the streams, the disk and the fleet of a run tell at a moment: all that source, sink and notes tell, the bytes on the disk, and how often
-- disk and fleet have failed
pub record Streams : Type 0 where
  pub source : SourceTrace
  pub sink : SinkTrace
  pub notes : SinkTrace
  pub stored : Option (List ℕ)
  pub disk_faults : ℕ
  pub fleet_faults : ℕ

-- the notes have the line of an ending
abbrev pub NotesLine : CommandEnd → Streams → Streams → Type 0
NotesLine ending before after = Notes ending before.notes.written after.notes.written before.notes.faults after.notes.faults

-- a status that the program may have
abbrev pub IsStatus : ℕ → Type 0
IsStatus status = IsTrue (list_any (λ s. s == status) (0 ∷ 2 ∷ 3 ∷ 4 ∷ 5 ∷ 6 ∷ 7 ∷ 8 ∷ 9 ∷ 10 ∷ 11 ∷ 12 ∷ 14 ∷ 15 ∷ []))

-- the notes have the line of an ending with this status
pub record IsNoted (status : ℕ) (before after : Streams) : Type 0 where
  pub ending : CommandEnd
  pub is_status : status ≡ status_of ending
  pub line : NotesLine ending before after

-- the statuses of rollouts that were begun and aren't finished, and of switches that weren't all told
abbrev pub IsUnfinished : ℕ → Type 0
IsUnfinished status = IsTrue (list_any (λ s. s == status) (5 ∷ 11 ∷ 14 ∷ []))

-- A run of the program, by what its words ask for and what that uses.
pub record IsRun {A : Type 0} (uses : Uses) (asked : Option A) (before after : Streams) (status : ℕ) : Type 0 where
  pub statuses : IsStatus status
  -- the words alone decide whether anything is read
  pub usage : (status ≡ 2) ↔ (asked ≡ None)
  -- a fault comes only where its object counted one
  pub read_fault : status ≡ 6 → Rose before.source.faults after.source.faults
  pub write_fault : status ≡ 7 → Rose before.sink.faults after.sink.faults
  pub disk_fault : status ≡ 8 → IsTrue uses.journal × Rose before.disk_faults after.disk_faults
  pub fleet_fault : status ≡ 9 → (IsTrue uses.guests × Rose before.fleet_faults after.fleet_faults) ⊎ IsTrue uses.ports
  -- only a rollout is begun and not finished, or only some switches told what they hold
  pub unfinished : IsUnfinished status → IsTrue uses.ports
  -- nothing is written but a text, or a part of it
  pub silent : status ≢ 0 → status ≢ 7 → after.sink.written ≡ before.sink.written
  -- the notes say why there is no text
  pub noted : IsNoted status before after

-- a run that ended before any word was read
pub record IsEnded (ending : CommandEnd) (before after : Streams) (status : ℕ) : Type 0 where
  pub is_status : status ≡ status_of ending
  pub line : NotesLine ending before after
  pub unread : after.source ≡ before.source
  pub unwritten : after.sink.written ≡ before.sink.written

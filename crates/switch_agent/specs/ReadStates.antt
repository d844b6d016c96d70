-- What is kept of a guest between two reads of it.
use Rattle.std.specs.Prelude.{ℕ, ◌<◌, ◌≤◌, List, [], Option, Some, None, IsTrue}
use Rattle.wan_edge.specs.Frames.{IsCutCommand}
use Rattle.wire_frames.specs.Reading.{Reader}

-- how many bytes of one guest are read at most
abbrev pub most : ℕ
most = 100_000_000

-- the first bytes of a command that isn't whole yet, and how many bytes may still be read
pub record ReadSoFar : Type 0 where
  pub kept : List ℕ
  pub room : ℕ

-- before the first read
abbrev pub new_read_state : ReadSoFar
new_read_state = record { kept = []; room = most }

-- how many bytes may still be read of a guest, where it is read further
abbrev pub room_of : Option ReadSoFar → ℕ
room_of None = 0
room_of (Some talk) = talk.room

-- what holds of it in the code: there was no fault, the command isn't whole, and some more may be read
pub record IsReadState (reader : Reader) (room : ℕ) : Type 0 where
  pub live : IsTrue reader.live
  pub cut : IsCutCommand reader.kept
  pub some : 0 < room
  pub few : room ≤ most

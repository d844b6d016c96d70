-- The bytes offered to a port, and the whole commands in them.
use Rattle.std.specs.Prelude.{◌≡◌, ℕ, ◌<◌, Bool, true, false, List, [], ◌∷◌, ◌++◌, length, Option, Some, None}
use Rattle.wan_edge.specs.Frames.{CommandFrame, IsCommand, IsCutCommand, Splits, command_bytes}
use Rattle.wan_edge.specs.Ports.{BeginsNoCommand}
use Rattle.wire_frames.specs.Reading.{IsCommandFault, Reader}
use Rattle.wire_frames.specs.declared.fault.FrameFault.{FrameFault}

-- the bytes that were taken for commands, and those still to be taken
pub record Stream : Type 0 where
  pub taken : List ℕ
  pub pending : List ℕ

abbrev pub offered_of : Stream → List ℕ
offered_of s = s.taken ++ s.pending

-- the whole commands at the front of these bytes are these, and no further one
pub record HasCommands (bytes : List ℕ) (commands : List CommandFrame) : Type 0 where
  pub rest : List ℕ
  pub whole : Splits command_bytes IsCommand bytes commands rest
  pub no_more : BeginsNoCommand rest

-- after these commands further ones were taken, and this holds of them
pub record TakesBehind (Holds : List CommandFrame → Type 0) (earlier : List CommandFrame) (taken_now : List ℕ) : Type 0 where
  pub commands : List CommandFrame
  pub has : HasCommands taken_now (earlier ++ commands)
  pub so : Holds commands

-- the same, where nothing is said of them
abbrev pub TakesMore : List CommandFrame → List ℕ → Type 0
TakesMore = TakesBehind (λ commands. Unit {0})

-- this holds of the whole commands that came with these bytes
pub record Came (Holds : List CommandFrame → Type 0) (offered offered_now : List ℕ) : Type 0 where
  pub earlier : List CommandFrame
  pub had : HasCommands offered earlier
  pub behind : TakesBehind Holds earlier offered_now

-- what was taken has whole commands, and as long as there is memory, it is all that was offered
pub record IsTaken (stream : Stream) (down : Bool) : Type 0 where
  pub commands : List CommandFrame
  pub has : HasCommands stream.taken commands
  pub all : down ≡ false → stream.pending ≡ []

-- the next whole command was taken
pub record GivesNext (before now : Stream) (c : CommandFrame) : Type 0 where
  pub fits : IsCommand c
  pub fewer : length now.pending < length before.pending
  pub same : offered_of now ≡ offered_of before
  pub next : (commands : List CommandFrame) → HasCommands before.taken commands → HasCommands now.taken (commands ++ c ∷ [])

-- there is no further whole command, and all bytes were taken
pub record IsReadOut (before now : Stream) : Type 0 where
  pub all : now ≡ record { taken = offered_of before; pending = [] }
  pub none : (commands : List CommandFrame) → HasCommands before.taken commands → HasCommands now.taken commands

-- After the whole commands stands what the reader keeps, or what no command begins with.
abbrev pub GoesOnAs : Bool → List ℕ → List ℕ → Type 0
GoesOnAs true kept rest = (rest ≡ kept) × IsCutCommand kept
GoesOnAs false kept rest = (fault : FrameFault) × IsCommandFault rest fault

-- What the reader makes of more bytes, after what it goes on with: with them that is a command, or it goes on with both.
abbrev pub Advances : List ℕ → List ℕ → Option CommandFrame → Reader → Type 0
Advances rest bytes (Some c) reader = (command_bytes c ≡ rest ++ bytes) × IsCommand c × GoesOnAs reader.live reader.kept []
Advances rest bytes None reader = GoesOnAs reader.live reader.kept (rest ++ bytes)

-- the reader goes on after the whole commands in the bytes taken
pub record IsReading (taken : List ℕ) (reader : Reader) : Type 0 where
  pub commands : List CommandFrame
  pub rest : List ℕ
  pub whole : Splits command_bytes IsCommand taken commands rest
  pub goes_on : GoesOnAs reader.live reader.kept rest

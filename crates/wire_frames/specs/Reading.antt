-- What a reader makes of the pieces that it is fed.
use Rattle.std.specs.Prelude.{◌≡◌, ℕ, ◌+◌, ◌*◌, ◌<◌, ◌≤◌, Bool, true, false, List, [], ◌++◌, length, take, slice_index, Option, Some, None, Result, Ok, Err}
use Rattle.wan_edge.specs.Frames.{AnswerFrame, CommandFrame, IsAnswer, IsCommand, IsCut, HasOtherCount, HasOtherKind, answer_bytes, answer_kind, command_bytes, command_kind}
use Rattle.wire_frames.specs.declared.fault.FrameFault.{FrameFault}
use Rattle.wire_frames.specs.declared.fault.FrameFault.TheVariants.{Count, Kind}

-- the bytes of the frame that hasn't ended yet, and whether there was no fault
pub record Reader : Type 0 where
  pub kept : List ℕ
  pub live : Bool

-- before the first byte, and after each whole frame
abbrev pub fresh : Reader
fresh = record { kept = []; live = true }

-- what stands at the front of these bytes is no command: this byte, in the place of its kind or of its count
abbrev pub IsCommandFault : List ℕ → FrameFault → Type 0
IsCommandFault bytes (Kind byte) = HasOtherKind command_kind bytes byte
IsCommandFault bytes (Count byte) = HasOtherCount bytes byte

-- what stands at the front of these bytes is no answer
abbrev pub IsAnswerFault : List ℕ → FrameFault → Type 0
IsAnswerFault bytes (Kind byte) = HasOtherKind answer_kind bytes byte
IsAnswerFault bytes (Count byte) = ⊥

module _ {X : Type 0} (bytes_of : X → List ℕ) (Fits : X → Type 0) (IsFault : List ℕ → FrameFault → Type 0) where
  -- with the first n bytes of the piece, at least one, what was kept is the whole frame
  pub record Ends (kept piece : List ℕ) (n : ℕ) (frame : X) (now : Reader) : Type 0 where
    pub fits : Fits frame
    pub some : 0 < n
    pub within : n ≤ length piece
    pub whole : bytes_of frame ≡ kept ++ take n piece
    pub now_fresh : now ≡ fresh

  -- all of the piece was taken, and with it what was kept is no whole frame yet
  pub record GoesOn (kept piece : List ℕ) (n : ℕ) (now : Reader) : Type 0 where
    pub all : n ≡ length piece
    pub now_longer : now ≡ record { kept = kept ++ piece; live = true }
    pub cut : IsCut bytes_of Fits (kept ++ piece)

  -- no frame begins so
  pub record Breaks (kept piece : List ℕ) (fault : FrameFault) (now : Reader) : Type 0 where
    pub at_byte : IsFault (kept ++ piece) fault
    pub now_dead : now.live ≡ false

  abbrev pub Gives : List ℕ → List ℕ → ℕ → Option X → Reader → Type 0
  Gives kept piece n (Some frame) now = Ends kept piece n frame now
  Gives kept piece n None now = GoesOn kept piece n now

  -- what each answer says of what was kept, the piece, and what the reader is now
  abbrev pub Reads : List ℕ → List ℕ → Result (ℕ × Option X) FrameFault → Reader → Type 0
  Reads kept piece (Ok given) now = Gives kept piece given.0 given.1 now
  Reads kept piece (Err fault) now = Breaks kept piece fault now

abbrev pub ReadsCommand : List ℕ → List ℕ → Result (ℕ × Option CommandFrame) FrameFault → Reader → Type 0
ReadsCommand = Reads command_bytes IsCommand IsCommandFault

abbrev pub ReadsAnswer : List ℕ → List ℕ → Result (ℕ × Option AnswerFrame) FrameFault → Reader → Type 0
ReadsAnswer = Reads answer_bytes IsAnswer IsAnswerFault

-- the front of a command as far as it has come: its kind, and its count, which tells its length
pub record IsBegun (kept : List ℕ) : Type 0 where
  pub kind : 0 < length kept → slice_index kept 0 ≡ command_kind
  pub some : 17 < length kept → 0 < slice_index kept 17
  pub few : 17 < length kept → slice_index kept 17 ≤ 16
  pub short : 17 < length kept → length kept < 18 + 8 * slice_index kept 17

-- the front of an answer as far as it has come
pub record IsBegunAnswer (kept : List ℕ) : Type 0 where
  pub kind : 0 < length kept → slice_index kept 0 ≡ answer_kind
  pub short : length kept < 13

-- bytes that are all of a command: its kind, a count, and as many bytes as the count tells
pub record IsWhole (bytes : List ℕ) : Type 0 where
  pub kind : slice_index bytes 0 ≡ command_kind
  pub some : 0 < slice_index bytes 17
  pub few : slice_index bytes 17 ≤ 16
  pub long : length bytes ≡ 18 + 8 * slice_index bytes 17

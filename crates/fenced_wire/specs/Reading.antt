-- What a reader of commands with terms makes of the pieces that it is fed.
use Rattle.std.specs.Prelude.{◌≡◌, ◌≢◌, ◌⊎◌, ℕ, ◌-◌, ◌<◌, ◌≤◌, ◌^◌, Bool, true, false, List, [], ◌++◌, length, take, drop, slice_index, Option, None, Some, Result, Ok, Err}
use Rattle.byteorder.specs.Endian.{big_number}
use Rattle.wan_edge.specs.Frames.{IsCut, IsCutCommand}
use Rattle.wire_frames.specs.Reading.{IsCommandFault, Reader}
use Rattle.wire_frames.specs.declared.fault.FrameFault.{FrameFault}
use Rattle.fenced_agent.specs.Frames.{IsTermedCommand, TermedCommand, fence_bytes, fence_kind, term_of, termed_bytes}

-- The bytes that stand in front of a command, as far as they have come, and those of the command after them; whether such a one has begun; and whether
-- there was no fault.
pub record Termed : Type 0 where
  pub head : List ℕ
  pub kept : List ℕ
  pub begun : Bool
  pub live : Bool

-- all bytes of the command that hasn't ended
abbrev pub all_kept : Termed → List ℕ
all_kept r = r.head ++ r.kept

abbrev pub fresh : Termed
fresh = record { head = []; kept = []; begun = false; live = true }

-- What stands at the front of these bytes is no command, with a term or without one: after the term, or in its place, a byte can't stand where it stands.
pub record IsTermedFault (bytes : List ℕ) (fault : FrameFault) : Type 0 where
  pub term : Option ℕ
  pub in_term : term_of term < 2 ^ 32
  pub rest : List ℕ
  pub parts : bytes ≡ fence_bytes term ++ rest
  pub at_byte : IsCommandFault rest fault
  pub plain : term ≡ None → slice_index bytes 0 ≢ fence_kind

-- with the first n bytes of the piece, at least one, what was kept is the whole command
pub record Ends (before : Termed) (piece : List ℕ) (n : ℕ) (command : TermedCommand) (now : Termed) : Type 0 where
  pub fits : IsTermedCommand command
  pub some : 0 < n
  pub within : n ≤ length piece
  pub whole : termed_bytes command ≡ all_kept before ++ take n piece
  pub none_kept : all_kept now ≡ []
  pub live : now.live ≡ true

-- as many bytes were taken, at least one, and with them what was kept is no whole command yet
pub record GoesOn (before : Termed) (piece : List ℕ) (n : ℕ) (now : Termed) : Type 0 where
  pub some : 0 < n
  pub within : n ≤ length piece
  pub longer : all_kept now ≡ all_kept before ++ take n piece
  pub cut : IsCut termed_bytes IsTermedCommand (all_kept now)
  pub live : now.live ≡ true

-- no command begins so
pub record Breaks (before : Termed) (piece : List ℕ) (fault : FrameFault) (now : Termed) : Type 0 where
  pub at_byte : IsTermedFault (all_kept before ++ piece) fault
  pub dead : now.live ≡ false

abbrev pub Gives : Termed → List ℕ → ℕ → Option TermedCommand → Termed → Type 0
Gives before piece n (Some command) now = Ends before piece n command now
Gives before piece n None now = GoesOn before piece n now

abbrev pub ReadsTermed : Termed → List ℕ → Result (ℕ × Option TermedCommand) FrameFault → Termed → Type 0
ReadsTermed before piece (Ok given) now = Gives before piece given.0 given.1 now
ReadsTermed before piece (Err fault) now = Breaks before piece fault now

-- the front of a head, as far as it has come
pub record IsHead (head : List ℕ) : Type 0 where
  pub kind : 0 < length head → slice_index head 0 ≡ fence_kind
  pub short : length head ≤ 5
  pub small : (i : ℕ) → slice_index head i < 256

-- the number after the kind in a whole head; none where there is no head
abbrev pub IsTermIn : List ℕ → Option ℕ → Type 0
IsTermIn head None = length head < 5
IsTermIn head (Some term) = (5 ≤ length head) × (term ≡ big_number 4 (take (length head - 1) (drop 1 head)))

-- Where no command has begun none of its bytes are kept, and where a part of a head has come none has begun.
pub record IsReady (r : Termed) : Type 0 where
  pub idle : r.begun ≡ false → r.kept ≡ []
  pub apart : 0 < length r.head → length r.head < 5 → r.begun ≡ false
  pub cut : IsCutCommand r.kept
  pub plain : r.begun ≡ true → r.head ≡ [] → 0 < length r.kept

pub record IsStanding (r : Termed) : Type 0 where
  pub head : IsHead r.head
  pub ready : r.live ≡ true → IsReady r

-- of these parts
abbrev pub termed : List ℕ → Reader → Bool → Termed
termed head reader begun = record { head = head; kept = reader.kept; begun = begun; live = reader.live }

-- the next byte stands in a head, which has begun or begins with it
pub record IsInHead (head : List ℕ) (begun : Bool) (piece : List ℕ) : Type 0 where
  pub none : begun ≡ false
  pub short : length head < 5
  pub kind : (head ≡ []) → slice_index piece 0 ≡ fence_kind

-- a command has begun, or the head in front of it is whole, or none stands there
abbrev pub IsInBody : List ℕ → Bool → List ℕ → Type 0
IsInBody head begun piece = (begun ≡ true) ⊎ ((5 ≤ length head) ⊎ ((head ≡ []) × (slice_index piece 0 ≢ fence_kind)))

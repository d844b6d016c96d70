-- What a worker began with, and what it came to, said of a history that has gone on since.
use Rattle.std.specs.Prelude.{◌≡◌, ◌⊎◌, ⊤, ℕ, ◌<◌, List, [], ◌∷◌, ◌++◌, All, Option, Some, None}
use Rattle.turn_lock.specs.Histories.{Follows}
use Rattle.port_session.specs.Sessions.{SessionView, first_session}
use Rattle.wan_edge.specs.Ports.{PortTrace}
use Rattle.shared_book.specs.declared.note.Cause.{Cause}
use Rattle.shared_book.specs.declared.note.Cause.TheVariants as cause
use Rattle.shared_book.specs.declared.note.What.TheVariants as what
use Rattle.shared_book.specs.declared.note.Written.{Written}
use Rattle.shared_book.specs.declared.call_reply.Halt.{Halt}
use Rattle.shared_book.specs.declared.call_reply.Wake.{Wake}
use Rattle.shared_book.specs.Histories.{Opening}
use Rattle.shared_book.specs.Notes.{first_stop}
use Rattle.shared_book.specs.Calls.{seat_of}
use Rattle.shared_book.specs.Images.{HasDisk}
use Rattle.controller_run.specs.Promises.{EndNothing, StopsNothing}
use Rattle.controller_run.specs.Serving.{Served}
use Rattle.controller_run.specs.Working.{Standing}

-- why a worker stopped all that has served nothing: a note says that the disk failed, or memory ran out
abbrev pub IsEarlyCause : List Written → Cause → Type 0
IsEarlyCause seen (cause.Spent given item number) = ⊥
IsEarlyCause seen (cause.Port switch) = ⊥
IsEarlyCause seen (cause.Above item held begun) = ⊥
IsEarlyCause seen (cause.NotMine switch item) = ⊥
IsEarlyCause seen (cause.NoAnswer switch byte) = ⊥
IsEarlyCause seen cause.Disk = HasDisk seen
IsEarlyCause seen cause.Memory = ⊤

-- so it is where the first stop is of this seat
abbrev pub StopsEarly : ℕ → List Written → Type 0
StopsEarly seat seen = (halt : Halt) → first_stop seen ≡ Some halt → halt.seat ≡ seat → IsEarlyCause seen halt.cause

-- some round of the book turned: a note says so
pub record HasTurned (log : List Written) : Type 0 where
  pub front : List Written
  pub note : Written
  pub later : List Written
  pub is : log ≡ front ++ note ∷ later
  pub dones : ℕ
  pub begins : ℕ
  pub says : note.note.what ≡ what.Turned dones begins

-- a stop stands in a history
abbrev pub IsHalted : List Written → Type 0
IsHalted log = (halt : Halt) × (first_stop log ≡ Some halt)

-- a worker of another seat than 0 that has left its ports to the worker of that seat
abbrev pub IsRelieved : {P : Type 0} → ℕ → List (SessionView P) → Type 0
IsRelieved seat ports = (0 < seat) × (ports ≡ [])

-- A worker that had stopped nothing, and has seen a round turn, has served; or it never began, is as it was, and has seen a stop, or was relieved.
abbrev pub Returns : {P : Type 0} → (P → PortTrace) → Opening → ℕ → ℕ → List (Option ℕ) → ℕ → Standing P → Option Wake → Standing P → Type 0
Returns tell o seat migration homes rounds before None now = (now ≡ before) × StopsEarly seat now.seen × (IsHalted now.seen ⊎ IsRelieved seat now.ports)
Returns tell o seat migration homes rounds before (Some end) now = StopsNothing seat before.seen × Served tell o (seat ∷ []) seat migration homes rounds before end now × HasTurned before.seen

-- what a worker begins with: its seat, what was seen of the history, and its ports
pub record Given (P : Type 0) : Type 0 where
  pub seat : ℕ
  pub before : Standing P

-- so far no note of a seat has ended an operation
abbrev pub IsQuiet : ℕ → List Written → Type 0
IsQuiet seat log = All (λ w. seat_of w ≡ seat → EndNothing w.entries) log

-- each port is before its first round
abbrev pub AreFresh : {P : Type 0} → List (SessionView P) → Type 0
AreFresh talks = All (λ t. t ≡ first_session t.switch t.port) talks

-- a worker from its first round to its last, and why it ended; no reason where it never began
pub record Shift (P : Type 0) : Type 0 where
  pub given : Given P
  pub end : Option Wake
  pub now : Standing P

-- The history begins with what it has seen, and past that has no note of its seat.
pub record IsShift {P : Type 0} (tell : P → PortTrace) (o : Opening) (migration : ℕ) (homes : List (Option ℕ)) (rounds : ℕ) (log : List Written) (s : Shift P) : Type 0 where
  pub quiet : IsQuiet s.given.seat s.given.before.seen
  pub fresh : AreFresh s.given.before.ports
  pub returns : Returns tell o s.given.seat migration homes rounds s.given.before s.end s.now
  pub follows : Follows seat_of (s.given.seat ∷ []) s.now.seen log

-- a note's seat is that of one of these
abbrev pub IsOfOne : {P : Type 0} → List (Shift P) → ℕ → Type 0
IsOfOne [] seat = ⊥
IsOfOne (s ∷ later) seat = (s.given.seat ≡ seat) ⊎ IsOfOne later seat

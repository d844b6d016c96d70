-- Notes: whose they are, which of them stop a history, and which stop is the first.
use Rattle.std.specs.Prelude.{ℕ, ◌+◌, Bool, true, false, ◌&&◌, ◌||◌, List, [], ◌∷◌, map, ◌==◌, if◌then◌else◌, Option, Some, None, option_map, is_some}
use Rattle.std.specs.Option.{option_or}
use Rattle.rollout_book.specs.declared.fault.BookFault.{BookFault}
use Rattle.rollout_book.specs.declared.fault.BookFault.TheVariants as fault
use Rattle.shared_book.specs.declared.note.Cause.{Cause}
use Rattle.shared_book.specs.declared.note.Cause.TheVariants as cause
use Rattle.shared_book.specs.declared.note.What.{What}
use Rattle.shared_book.specs.declared.note.What.TheVariants as what
use Rattle.shared_book.specs.declared.note.Note.{Note}
use Rattle.shared_book.specs.declared.note.Written.{Written}
use Rattle.shared_book.specs.declared.call_reply.Halt.{Halt}

-- the notes alone
abbrev pub notes_of : List Written → List Note
notes_of ws = map (λ w. w.note) ws

-- how many calls of a seat left a note
abbrev pub calls_by : ℕ → List Written → ℕ
calls_by seat [] = 0
calls_by seat (w ∷ ws) = (if w.note.seat == seat then 1 else 0) + calls_by seat ws

-- the cause for which a round that was refused stops all
abbrev pub cause_of_fault : BookFault → Cause
cause_of_fault (fault.Alien item held begun) = cause.Above item held begun
cause_of_fault fault.Disk = cause.Disk

-- the cause for which a note stops the history, if it does
abbrev pub cause_of : What → Option Cause
cause_of (what.Turned dones begins) = None
cause_of (what.Alien item held begun) = Some (cause_of_fault (fault.Alien item held begun))
cause_of what.Disk = Some (cause_of_fault fault.Disk)
cause_of what.Listed = None
cause_of what.Work = None
cause_of what.Finished = None
cause_of what.Held = None
cause_of what.Stopped = None
cause_of (what.Stop why) = Some why

abbrev pub halt_by : Note → Option Halt
halt_by note = option_map (λ why. record { seat = note.seat; call = note.call; cause = why }) (cause_of note.what)

-- The first stop: that of the first note which is an Alien, a Disk or a Stop.
abbrev pub first_stop : List Written → Option Halt
first_stop [] = None
first_stop (w ∷ ws) = option_or (halt_by w.note) (first_stop ws)

abbrev pub is_stopped : List Written → Bool
is_stopped ws = is_some (first_stop ws)

-- whether a seat has asked that all stop
abbrev pub asks_to_stop : What → Bool
asks_to_stop (what.Turned dones begins) = false
asks_to_stop (what.Alien item held begun) = false
asks_to_stop what.Disk = false
asks_to_stop what.Listed = false
asks_to_stop what.Work = false
asks_to_stop what.Finished = false
asks_to_stop what.Held = false
asks_to_stop what.Stopped = false
asks_to_stop (what.Stop why) = true

abbrev pub has_asked : ℕ → List Written → Bool
has_asked seat [] = false
has_asked seat (w ∷ ws) = ((w.note.seat == seat) && asks_to_stop w.note.what) || has_asked seat ws

-- What a worker comes to, from its first round to its last.
use Rattle.std.specs.Prelude.{◌≡◌, ◌⊎◌, ℕ, ◌+◌, Bool, List, [], ◌∷◌, Option, if◌then◌else◌}
use Rattle.port_session.specs.Sessions.{SessionView}
use Rattle.shared_book.specs.declared.note.Cause.{Cause}
use Rattle.shared_book.specs.declared.note.Written.{Written}
use Rattle.shared_book.specs.declared.call_reply.Halt.{Halt}
use Rattle.shared_book.specs.declared.call_reply.Wake.{Wake}
use Rattle.shared_book.specs.declared.call_reply.Wake.TheVariants as wake
use Rattle.shared_book.specs.Histories.{Opening}
use Rattle.shared_book.specs.Calls.{IsStopCall}
use Rattle.wan_edge.specs.Ports.{PortTrace}
use Rattle.switch_ports.specs.Due.{any_late, due_of}
use Rattle.controller_run.specs.Finding.{Caller}
use Rattle.controller_run.specs.Working.{IsWorked, Standing}
use Rattle.controller_run.specs.declared.round_end.RoundEnd.{RoundEnd}
use Rattle.controller_run.specs.declared.round_end.RoundEnd.TheVariants as outcome

-- where a worker stands before a round, and how many of its rounds are left
pub record Moment (P : Type 0) : Type 0 where
  pub stands : Standing P
  pub left : ℕ

-- a worker with these ports
abbrev pub caller_of : {P : Type 0} → Opening → List ℕ → ℕ → List (SessionView P) → Caller
caller_of o seats seat ports = record { opening = o; seats = seats; seat = seat; switches = due_of ports; late = any_late ports }

-- what became of one round
abbrev pub Worked : {P : Type 0} → (P → PortTrace) → Opening → List ℕ → ℕ → ℕ → List (Option ℕ) → ℕ → Moment P → RoundEnd → Standing P → Type 0
Worked tell o seats seat migration homes rounds before given now =
    IsWorked tell (caller_of o seats seat before.stands.ports) migration homes before.left rounds before.stands given now

-- a whole round: where commands were offered, one less is left
pub record Whole {P : Type 0} (tell : P → PortTrace) (o : Opening) (seats : List ℕ) (seat migration : ℕ) (homes : List (Option ℕ)) (rounds : ℕ) (before now : Moment P) : Type 0 where
  pub offered : Bool
  pub worked : Worked tell o seats seat migration homes rounds before (outcome.Whole offered) now.stands
  pub less : before.left ≡ now.left + (if offered then 1 else 0)

-- whole rounds, one after the other
abbrev pub AreWhole : {P : Type 0} → (P → PortTrace) → Opening → List ℕ → ℕ → ℕ → List (Option ℕ) → ℕ → Moment P → List (Moment P) → Moment P → Type 0
AreWhole tell o seats seat migration homes rounds before [] now = now ≡ before
AreWhole tell o seats seat migration homes rounds before (m ∷ later) now =
    Whole tell o seats seat migration homes rounds before m × AreWhole tell o seats seat migration homes rounds m later now

-- The last round stopped all, or asked for it: the worker is told the first stop.
pub record HasStopped {P : Type 0} (tell : P → PortTrace) (o : Opening) (seats : List ℕ) (seat migration : ℕ) (homes : List (Option ℕ)) (rounds : ℕ) (before : Moment P) (halt : Halt) (now : Standing P) : Type 0 where
  pub cause : Cause
  pub log : List Written
  pub worked : Worked tell o seats seat migration homes rounds before (outcome.Stops cause) (record { seen = log; ports = now.ports })
  pub asked : IsStopCall o seats seat log cause halt now.seen

-- the last round, and the end
abbrev pub IsLast : {P : Type 0} → (P → PortTrace) → Opening → List ℕ → ℕ → ℕ → List (Option ℕ) → ℕ → Moment P → Wake → Standing P → Type 0
IsLast tell o seats seat migration homes rounds before (wake.Work op) now = ⊥
IsLast tell o seats seat migration homes rounds before wake.Finished now = Worked tell o seats seat migration homes rounds before (outcome.Ended wake.Finished) now
IsLast tell o seats seat migration homes rounds before wake.Held now = Worked tell o seats seat migration homes rounds before (outcome.Ended wake.Held) now
IsLast tell o seats seat migration homes rounds before (wake.Stopped halt) now =
    Worked tell o seats seat migration homes rounds before (outcome.Ended (wake.Stopped halt)) now ⊎ HasStopped tell o seats seat migration homes rounds before halt now
IsLast tell o seats seat migration homes rounds before wake.Memory now = ⊥

-- all of it
pub record Served {P : Type 0} (tell : P → PortTrace) (o : Opening) (seats : List ℕ) (seat migration : ℕ) (homes : List (Option ℕ)) (rounds : ℕ) (before : Standing P) (end : Wake) (now : Standing P) : Type 0 where
  pub moments : List (Moment P)
  pub at : Moment P
  pub whole : AreWhole tell o seats seat migration homes rounds (record { stands = before; left = rounds }) moments at
  pub last : IsLast tell o seats seat migration homes rounds at end now

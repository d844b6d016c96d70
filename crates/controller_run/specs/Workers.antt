-- Workers in threads of their own, and the one that sends them out.
use Rattle.std.specs.Prelude.{◌≡◌, ◌⊎◌, ℕ, ◌+◌, ◌<◌, ◌≤◌, List, [], ◌++◌, length, map, nat_eq, All, IsPermutation, Option, Some, None}
use Rattle.std.specs.List.{Contains, IsDistinct, flat_map}
use Rattle.turn_lock.specs.declared.counted.Counted.{Ghosts}
use Rattle.turn_lock.specs.declared.lock.TurnLock.{TurnLock}
use Rattle.turn_lock.specs.declared.pass.Pass.{Pass}
use Rattle.turn_lock.specs.Passes.{IsPassOf, IsSamePass, given_of, joined_of, out_of, seat_of_pass, seats_of, seen_of}
use Rattle.port_session.specs.Sessions.{SessionView}
use Rattle.wan_edge.specs.Ports.{PortTrace}
use Rattle.switch_ports.specs.declared.ports.Berth.{Berth}
use Rattle.switch_ports.specs.Hands.{first_sessions}
use Rattle.shared_book.specs.declared.note.Cause.TheVariants as cause
use Rattle.shared_book.specs.declared.note.Written.{Written}
use Rattle.shared_book.specs.declared.call_reply.Halt.{Halt}
use Rattle.shared_book.specs.declared.call_reply.Wake.{Wake}
use Rattle.shared_book.specs.Histories.{Opening}
use Rattle.shared_book.specs.Calls.{IsCounted, IsStopCall}
use Rattle.controller_run.specs.Promises.{StopsNothing}
use Rattle.controller_run.specs.Serving.{Served}
use Rattle.controller_run.specs.Working.{Standing}
use Rattle.controller_run.specs.Shifts.{AreFresh, HasTurned, IsHalted, IsOfOne, IsQuiet, IsShift, Shift}
use Rattle.controller_run.specs.Together.{given_ports, left_ports}

-- the ports of several workers, one worker's after the other's
abbrev pub all_ports : {P : Type 0} → List (List (SessionView P)) → List (SessionView P)
all_ports crews = flat_map (λ ports. ports) crews

-- all ports of a run: those of the caller, the spare ones, which nobody serves, and those of the workers that are sent out
abbrev pub workers_ports : {P : Type 0} → List (SessionView P) → List (Berth P) → List (List (SessionView P)) → List (SessionView P)
workers_ports own spare crews = own ++ (first_sessions spare ++ all_ports crews)

-- Before the first round. No two ports are to one switch, and there is room for all among the spare ones.
pub record AreWorkers {P : Type 0} (own : List (SessionView P)) (spare : List (Berth P)) (most : ℕ) (crews : List (List (SessionView P))) : Type 0 where
  pub own_fresh : AreFresh own
  pub fresh : All (λ ports. AreFresh ports) crews
  pub apart : IsDistinct nat_eq (map (λ t. t.switch) (workers_ports own spare crews))
  pub room : length (workers_ports own spare crews) ≤ most

-- A worker that never began has left its ports to the caller; one that began keeps them.
abbrev pub Relieves : {P : Type 0} → Option Wake → List (SessionView P) → List (SessionView P) → List (SessionView P) → List (SessionView P) → List (SessionView P) → List (SessionView P) → Type 0
Relieves None ports now own spare own' spare' = (now ≡ []) × IsPermutation (own ++ (spare ++ ports)) (own' ++ spare')
Relieves (Some end) ports now own spare own' spare' = (now ≡ ports) × (own' ≡ own) × (spare' ≡ spare)

-- a worker that came back has served, or is as it was given
abbrev pub DidServe : {P : Type 0} → (P → PortTrace) → Opening → List ℕ → ℕ → ℕ → List (Option ℕ) → ℕ → Standing P → Option Wake → Standing P → Type 0
DidServe tell o seats seat migration homes rounds before None now = now ≡ before
DidServe tell o seats seat migration homes rounds before (Some end) now = Served tell o seats seat migration homes rounds before end now

-- the same with its pass, which is one of the same lock and the same seat, and knows how many calls its seat has made
pub record HasReturned {V P : Type 0} {C : Ghosts V Written} (tell : P → PortTrace) (o : Opening) (migration : ℕ) (homes : List (Option ℕ)) (rounds : ℕ) (given : Pass V Written C) (ports : List (SessionView P)) (pass : Pass V Written C) (calls : ℕ) (end : Option Wake) (now : List (SessionView P)) : Type 0 where
  pub of_lock : pass.place.table_id ≡ given.place.table_id
  pub same : IsSamePass given pass
  pub counted : IsCounted calls pass
  pub served : DidServe tell o (seats_of given) (seat_of_pass given) migration homes rounds (record { seen = seen_of given; ports = ports }) end (record { seen = seen_of pass; ports = now })

-- a worker that came back and never began has asked that all stop, since nobody serves its ports
abbrev pub Answers : {V : Type 0} {C : Ghosts V Written} → Opening → Option Wake → Pass V Written C → Pass V Written C → Type 0
Answers o None back pass = (halt : Halt) × IsStopCall o (seats_of back) (seat_of_pass back) (seen_of back) cause.Memory halt (seen_of pass)
Answers o (Some end) back pass = pass ≡ back

-- The pass of seat 0, from which so many seats may be split off. It has seen a round turn; its seat has ended no operation and stopped nothing so far.
pub record IsLeader {V : Type 0} {C : Ghosts V Written} (lock : TurnLock V Written) (seats crews : ℕ) (p : Pass V Written C) (calls : ℕ) : Type 0 where
  pub of_lock : IsPassOf lock p
  pub counted : IsCounted calls p
  pub first : seat_of_pass p ≡ 0
  pub alone : joined_of p ≡ []
  pub some_seat : 0 < given_of p
  pub room : given_of p + crews ≤ seats
  pub few : seats ≤ 4294967295
  pub quiet : IsQuiet 0 (seen_of p)
  pub stops_nothing : StopsNothing 0 (seen_of p)
  pub turned : HasTurned (seen_of p)

-- The worker of seat 0 and so many others, of the seats from a number on, have worked, and their passes were joined: their seats are among these.
pub record Gathers {P : Type 0} (tell : P → PortTrace) (o : Opening) (migration : ℕ) (homes : List (Option ℕ)) (rounds : ℕ) (first count : ℕ) (whole : List (SessionView P)) (seats : List ℕ) (log : List Written) (now : List (SessionView P)) : Type 0 where
  pub shifts : List (Shift P)
  pub whole_shifts : All (IsShift tell o migration homes rounds log) shifts
  pub among : All (λ s. Contains seats s.given.seat) shifts
  pub caller : IsOfOne shifts 0
  pub seated : (seat : ℕ) → first ≤ seat → seat < first + count → IsOfOne shifts seat
  pub spare : List (SessionView P)
  pub same : IsPermutation whole (given_ports shifts ++ spare)
  pub back : IsPermutation (left_ports shifts ++ spare) now
  pub spared : (spare ≡ []) ⊎ IsHalted log

-- the pass of seat 0 once these have worked
pub record HasLed {V P : Type 0} {C : Ghosts V Written} (tell : P → PortTrace) (o : Opening) (migration : ℕ) (homes : List (Option ℕ)) (rounds : ℕ) (lock : TurnLock V Written) (count : ℕ) (before : Pass V Written C) (whole : List (SessionView P)) (now : Pass V Written C) (calls : ℕ) (ports : List (SessionView P)) : Type 0 where
  pub of_lock : IsPassOf lock now
  pub counted : IsCounted calls now
  pub first : seat_of_pass now ≡ 0
  pub given : given_of now ≡ given_of before + count
  pub out : out_of now ≡ out_of before
  pub gathers : Gathers tell o migration homes rounds (given_of before) count whole (seats_of now) (seen_of now) ports

-- All workers of a rollout, from their first rounds to their last.
use Rattle.std.specs.Prelude.{◌≡◌, ◌⊎◌, ℕ, ◌<◌, List, [], ◌++◌, All, IsPermutation, Option}
use Rattle.std.specs.List.{flat_map}
use Rattle.port_session.specs.Sessions.{SessionView}
use Rattle.wan_edge.specs.Ports.{PortTrace}
use Rattle.shared_book.specs.declared.note.Written.{Written}
use Rattle.shared_book.specs.Histories.{Opening}
use Rattle.controller_run.specs.Shifts.{IsHalted, IsOfOne, IsShift, Shift}

-- the ports with which workers began
abbrev pub given_ports : {P : Type 0} → List (Shift P) → List (SessionView P)
given_ports shifts = flat_map (λ s. s.given.before.ports) shifts

-- and those with which they ended
abbrev pub left_ports : {P : Type 0} → List (Shift P) → List (SessionView P)
left_ports shifts = flat_map (λ s. s.now.ports) shifts

-- Each seat below a number, of which there is one at least, is that of one of these workers. Their ports, with those that nobody served, are those of
-- before; and as they were left, with those that nobody served, they are those of now. Some were served by nobody only where a stop stands.
pub record HasWorked {P : Type 0} (tell : P → PortTrace) (o : Opening) (migration : ℕ) (homes : List (Option ℕ)) (rounds : ℕ) (whole : List (SessionView P)) (seats : ℕ) (log : List Written) (now : List (SessionView P)) : Type 0 where
  pub shifts : List (Shift P)
  pub whole_shifts : All (IsShift tell o migration homes rounds log) shifts
  pub some_seat : 0 < seats
  pub seated : (seat : ℕ) → seat < seats → IsOfOne shifts seat
  pub spare : List (SessionView P)
  pub same : IsPermutation whole (given_ports shifts ++ spare)
  pub back : IsPermutation (left_ports shifts ++ spare) now
  pub spared : (spare ≡ []) ⊎ IsHalted log

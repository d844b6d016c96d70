-- Runs that finish.
use Rattle.std.specs.Prelude.{◌≡◌, ◌≢◌, ⊤, ℕ, ◌<◌, ◌≤◌, ◌^◌, true, false, List, ◌++◌, All, Option, None, IsTrue}
use Rattle.std.specs.List.{Contains}
use Rattle.rollout_rules.specs.Network.{IsNetwork}
use Rattle.rollout_rules.specs.Valid.{is_valid_plan}
use Rattle.rollout_rules.specs.Legal.{is_finished, unsettled}
use Rattle.rollout_laws.specs.Waiting.{HoldsNothing}
use Rattle.port_session.specs.Sessions.{SessionView}
use Rattle.shared_book.specs.declared.note.Cause.{Cause}
use Rattle.shared_book.specs.declared.note.Cause.TheVariants as cause
use Rattle.shared_book.specs.declared.note.Written.{Written}
use Rattle.shared_book.specs.Histories.{Opening, history_of}
use Rattle.shared_book.specs.Legal.{is_still}
use Rattle.shared_book.specs.Notes.{first_stop}
use Rattle.shared_book.specs.Calls.{seat_of}
use Rattle.wan_edge.specs.Ports.{PortTrace}
use Rattle.switch_ports.specs.Views.{view}
use Rattle.controller_run.specs.Promises.{switches_of}
use Rattle.controller_run.specs.Shifts.{HasTurned, Shift}
use Rattle.controller_run.specs.Together.{HasWorked}
use Rattle.controller_run.specs.declared.end.RunEnd.{RunEnd}
use Rattle.controller_run.specs.declared.end.RunEnd.TheVariants as run
use Rattle.completion_laws.specs.Answering.{IsReady, IsUpToDate}
use Rattle.completion_laws.specs.Faults.{IsExcused}

-- What a run of a valid plan begins with that is sure to finish: each port that was opened is ready, rounds are given for all that isn't settled,
-- and the policy holds nothing back.
pub record IsSure {P : Type 0} (tell : P → PortTrace) (o : Opening) (migration : ℕ) (homes : List (Option ℕ)) (rounds : ℕ) (opened : List (SessionView P)) : Type 0 where
  pub network : IsNetwork o.rollout.problem
  pub plan : IsTrue (is_valid_plan o.rollout.problem o.rollout.plan)
  pub small : migration < 2 ^ 32
  pub ready : All (λ t. IsReady o.rollout migration homes o.found (view tell t)) opened
  pub enough : unsettled o.rollout.problem o.rollout.plan o.found ≤ rounds
  pub free : HoldsNothing o.policy

-- The same but for the policy: such a run ends, whatever its policy holds back.
pub record IsProvided {P : Type 0} (tell : P → PortTrace) (o : Opening) (migration : ℕ) (homes : List (Option ℕ)) (rounds : ℕ) (opened : List (SessionView P)) : Type 0 where
  pub network : IsNetwork o.rollout.problem
  pub plan : IsTrue (is_valid_plan o.rollout.problem o.rollout.plan)
  pub small : migration < 2 ^ 32
  pub ready : All (λ t. IsReady o.rollout migration homes o.found (view tell t)) opened
  pub enough : unsettled o.rollout.problem o.rollout.plan o.found ≤ rounds

-- The same over ports that have answered all that went over them by now, whatever that was, and whose switches hold what is on the way after the history found.
pub record IsServed {P : Type 0} (tell : P → PortTrace) (o : Opening) (migration : ℕ) (homes : List (Option ℕ)) (rounds : ℕ) (opened : List (SessionView P)) : Type 0 where
  pub network : IsNetwork o.rollout.problem
  pub plan : IsTrue (is_valid_plan o.rollout.problem o.rollout.plan)
  pub small : migration < 2 ^ 32
  pub up : All (λ t. IsUpToDate o.rollout migration homes o.found (view tell t)) opened
  pub enough : unsettled o.rollout.problem o.rollout.plan o.found ≤ rounds

-- a stop for lack of memory, and for nothing else
abbrev pub IsWant : Cause → Type 0
IsWant (cause.Spent given item number) = ⊥
IsWant (cause.Port switch) = ⊥
IsWant (cause.Above item held begun) = ⊥
IsWant (cause.NotMine switch item) = ⊥
IsWant (cause.NoAnswer switch byte) = ⊥
IsWant cause.Disk = ⊥
IsWant cause.Memory = ⊤

-- a run that has finished, or ended for lack of memory
abbrev pub FinishesOrWants : RunEnd → Type 0
FinishesOrWants run.Finished = ⊤
FinishesOrWants run.Held = ⊥
FinishesOrWants (run.Stopped halt) = IsWant halt.cause
FinishesOrWants (run.NoPort switch) = ⊥
FinishesOrWants run.Memory = ⊤

-- a run that has finished, was stopped where the disk or a port failed, or ended for lack of memory
abbrev pub FinishesOrIsExcused : RunEnd → Type 0
FinishesOrIsExcused run.Finished = ⊤
FinishesOrIsExcused run.Held = ⊥
FinishesOrIsExcused (run.Stopped halt) = IsExcused halt.cause
FinishesOrIsExcused (run.NoPort switch) = ⊥
FinishesOrIsExcused run.Memory = ⊤

-- a run that has finished or was held by its policy, was stopped where the disk or a port failed, or ended for lack of memory
abbrev pub EndsOrIsExcused : RunEnd → Type 0
EndsOrIsExcused run.Finished = ⊤
EndsOrIsExcused run.Held = ⊤
EndsOrIsExcused (run.Stopped halt) = IsExcused halt.cause
EndsOrIsExcused (run.NoPort switch) = ⊥
EndsOrIsExcused run.Memory = ⊤

-- The ports of workers with different seats are to different switches.
abbrev pub AreServedApart : {P : Type 0} → List (Shift P) → Type 0
AreServedApart {P = P} shifts = (a b : Shift P) → Contains shifts a → Contains shifts b → a.given.seat ≢ b.given.seat → (switch : ℕ) → Contains (switches_of a.given.before.ports) switch → Contains (switches_of b.given.before.ports) switch → ⊥

-- A worker has come to its end: at a beginning of the history, in which a round of the book has turned, all is settled or nothing is in flight.
pub record HasEnded (o : Opening) (log : List Written) : Type 0 where
  pub front : List Written
  pub later : List Written
  pub is : log ≡ front ++ later
  pub turned : HasTurned front
  pub idle : is_finished o.rollout.problem o.rollout.plan (history_of o front) ≡ false → is_still o.rollout.problem (history_of o front) ≡ true

-- How workers came to a history, from the ports that were opened. Where no stop stands in it, one of them has come to its end.
pub record IsOfWorkers {P : Type 0} (tell : P → PortTrace) (o : Opening) (migration : ℕ) (homes : List (Option ℕ)) (rounds : ℕ) (opened : List (SessionView P)) (log : List Written) : Type 0 where
  pub seats : ℕ
  pub made : All (λ w. seat_of w < seats) log
  pub left : List (SessionView P)
  pub worked : HasWorked tell o migration homes rounds opened seats log left
  pub apart : AreServedApart worked.shifts
  pub ended : first_stop log ≡ None → HasEnded o log

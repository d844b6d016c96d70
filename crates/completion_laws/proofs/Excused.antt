-- How a run over ports that are ready ends, whatever fails.
use Rattle.std.proofs.Common.{◌≡◌, ℕ, true, List, slice_index_or, refl}
use Rattle.rollout_rules.specs.Network.{IsNetwork}
use Rattle.rollout_rules.specs.Valid.{is_valid_plan}
use Rattle.rollout_rules.specs.Legal.{may_begin}
use Rattle.rollout_rules.specs.Release.{is_held_back, next_op, view_of}
use Rattle.rollout_laws.specs.Waiting.{HoldsNothing}
use Rattle.disk_model.specs.Traces.{DiskTrace}
use Rattle.port_session.specs.Sessions.{SessionView}
use Rattle.rollout_book.specs.JournaledRounds.{Journaled}
use Rattle.switch_ports.specs.Berths.{FleetPorts}
use Rattle.switch_ports.specs.Hands.{first_sessions}
use Rattle.switch_ports.specs.Views.{view}
use Rattle.shared_book.specs.declared.note.Written.{Written}
use Rattle.shared_book.specs.Histories.{Opening, history_of}
use Rattle.shared_book.specs.Legal.{is_legal_shared, is_still}
use Rattle.shared_book.specs.Homes.{homes_of}
use Rattle.wan_edge.specs.Ports.{PortTrace}
use Rattle.controller_run.specs.Ran.{Ran}
use Rattle.controller_run.specs.Runs.{IsRunEnd}
use Rattle.controller_run.specs.declared.end.RunEnd.{RunEnd}
use Rattle.controller_run.specs.declared.end.RunEnd.TheVariants as run
use Rattle.completion_laws.specs.Finishing.{EndsOrIsExcused, FinishesOrIsExcused, IsOfWorkers, IsProvided, IsServed, IsSure}
use Rattle.completion_laws.proofs.Ended.{ended-rests, never-held}
use Rattle.completion_laws.proofs.InFlight.{AllHeld}
use Rattle.completion_laws.proofs.OfRun.{of-workers}
use Rattle.completion_laws.proofs.Readied.{ready-up}
use Rattle.completion_laws.proofs.Workers.{run-excused}

-- a run that is sure to finish has all that one needs to end
provided : {P : Type 0} (tell : P → PortTrace) (o : Opening) (migration rounds : ℕ) (opened : List (SessionView P)) → IsSure tell o migration (homes_of o.rollout.problem) rounds opened → IsProvided tell o migration (homes_of o.rollout.problem) rounds opened
provided tell o migration rounds opened sure = record { network = sure.network; plan = sure.plan; small = sure.small; ready = sure.ready; enough = sure.enough }

-- and over ports that are ready has ports that have answered all
served : {P : Type 0} (tell : P → PortTrace) (o : Opening) (migration rounds : ℕ) (opened : List (SessionView P)) → IsProvided tell o migration (homes_of o.rollout.problem) rounds opened → IsServed tell o migration (homes_of o.rollout.problem) rounds opened
served tell o migration rounds opened given = record {
  network = given.network;
  plan = given.plan;
  small = given.small;
  up = λ k d inside. ready-up o.rollout migration (homes_of o.rollout.problem) o.found (view tell (slice_index_or opened k d)) (given.ready k d inside);
  enough = given.enough;
}

module _ {P : Type 0} (tell : P → PortTrace) (o : Opening) (migration rounds : ℕ) (opened : List (SessionView P)) (log : List Written) (legal : is_legal_shared o log ≡ true) (one : IsOfWorkers tell o migration (homes_of o.rollout.problem) rounds opened log)
    (sure : IsSure tell o migration (homes_of o.rollout.problem) rounds opened) where
  pub ends-excused : (end : RunEnd) → IsRunEnd o log end → FinishesOrIsExcused end
  ends-excused run.Finished ends = tt
  ends-excused run.Held ends = never-held o sure.network sure.plan sure.free log legal (one.ended ends.0) ends.1
  ends-excused (run.Stopped halt) ends = run-excused tell o migration (homes_of o.rollout.problem) rounds refl log legal opened (served tell o migration rounds opened (provided tell o migration rounds opened sure)) one halt ends
  ends-excused (run.NoPort switch) ends = ends
  ends-excused run.Memory ends = tt

-- whatever the policy holds back
module _ {P : Type 0} (tell : P → PortTrace) (o : Opening) (migration rounds : ℕ) (opened : List (SessionView P)) (log : List Written) (legal : is_legal_shared o log ≡ true) (one : IsOfWorkers tell o migration (homes_of o.rollout.problem) rounds opened log)
    (given : IsProvided tell o migration (homes_of o.rollout.problem) rounds opened) where
  held-excused : (end : RunEnd) → IsRunEnd o log end → EndsOrIsExcused end
  held-excused run.Finished ends = tt
  held-excused run.Held ends = tt
  held-excused (run.Stopped halt) ends = run-excused tell o migration (homes_of o.rollout.problem) rounds refl log legal opened (served tell o migration rounds opened given) one halt ends
  held-excused (run.NoPort switch) ends = ends
  held-excused run.Memory ends = tt

-- and over ports that have answered all
module _ {P : Type 0} (tell : P → PortTrace) (o : Opening) (migration rounds : ℕ) (opened : List (SessionView P)) (log : List Written) (legal : is_legal_shared o log ≡ true) (one : IsOfWorkers tell o migration (homes_of o.rollout.problem) rounds opened log)
    (given : IsServed tell o migration (homes_of o.rollout.problem) rounds opened) where
  served-excused : (end : RunEnd) → IsRunEnd o log end → EndsOrIsExcused end
  served-excused run.Finished ends = tt
  served-excused run.Held ends = tt
  served-excused (run.Stopped halt) ends = run-excused tell o migration (homes_of o.rollout.problem) rounds refl log legal opened given one halt ends
  served-excused (run.NoPort switch) ends = ends
  served-excused run.Memory ends = tt

-- so it is with a run by its clause
module _ {D P : Type 0} (trace : D → DiskTrace) (tell : P → PortTrace)
    (o : Opening) (from count migration rounds : ℕ) (homes : List ℕ) (before : FleetPorts P) where
  abbrev Runs : RunEnd → Journaled D → FleetPorts P → Type 0
  Runs end book now = Ran trace tell o from count migration rounds homes before end book now

  by-workers : (end : RunEnd) (book : Journaled D) (now : FleetPorts P) (ran : Runs end book now) → IsOfWorkers tell o migration (homes_of o.rollout.problem) rounds (first_sessions ran.berths) ran.log
  by-workers end book now ran = of-workers tell o migration (homes_of o.rollout.problem) rounds ran.berths ran.apart ran.log ran.seats ran.made ran.left ran.worked

  pub ran-excused : (end : RunEnd) (book : Journaled D) (now : FleetPorts P) (ran : Runs end book now) → IsSure tell o migration (homes_of o.rollout.problem) rounds (first_sessions ran.berths) → FinishesOrIsExcused end
  ran-excused end book now ran sure = ends-excused tell o migration rounds (first_sessions ran.berths) ran.log ran.legal (by-workers end book now ran) sure end ran.ends

  pub ran-ends : (end : RunEnd) (book : Journaled D) (now : FleetPorts P) (ran : Runs end book now) → IsProvided tell o migration (homes_of o.rollout.problem) rounds (first_sessions ran.berths) → EndsOrIsExcused end
  ran-ends end book now ran given = held-excused tell o migration rounds (first_sessions ran.berths) ran.log ran.legal (by-workers end book now ran) given end ran.ends

  pub ran-served : (end : RunEnd) (book : Journaled D) (now : FleetPorts P) (ran : Runs end book now) → IsServed tell o migration (homes_of o.rollout.problem) rounds (first_sessions ran.berths) → EndsOrIsExcused end
  ran-served end book now ran given = served-excused tell o migration rounds (first_sessions ran.berths) ran.log ran.legal (by-workers end book now ran) given end ran.ends

  -- and nothing is held by a policy that holds nothing back
  pub held-none : (book : Journaled D) (now : FleetPorts P) (ran : Runs run.Held book now) → IsNetwork o.rollout.problem → is_valid_plan o.rollout.problem o.rollout.plan ≡ true → HoldsNothing o.policy → ⊥
  held-none book now ran network plan free = never-held o network plan free ran.log ran.legal ((by-workers run.Held book now ran).ended ran.ends.0) ran.ends.1

  -- a run that ends for what is held
  held-rested : (book : Journaled D) (now : FleetPorts P) (ran : Runs run.Held book now) → (is_still o.rollout.problem (history_of o ran.log) ≡ true) × AllHeld o.rollout.problem o.rollout.plan o.policy (history_of o ran.log)
  held-rested book now ran = ended-rests o ran.log ran.legal ((by-workers run.Held book now ran).ended ran.ends.0) ran.ends.1

  pub held-still : (book : Journaled D) (now : FleetPorts P) (ran : Runs run.Held book now) → is_still o.rollout.problem (history_of o ran.log) ≡ true
  held-still book now ran = (held-rested book now ran).0

  pub held-rests : (book : Journaled D) (now : FleetPorts P) (ran : Runs run.Held book now) → (n : ℕ) → may_begin o.rollout.problem o.rollout.plan (history_of o ran.log) (next_op (history_of o ran.log) n) ≡ true
      → is_held_back o.policy (view_of o.rollout.problem o.rollout.plan (history_of o ran.log) n) ≡ true
  held-rests book now ran = (held-rested book now ran).1

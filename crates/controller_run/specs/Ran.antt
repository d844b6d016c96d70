-- What a run over a fleet leaves: of its book and disk, of its ports, and of the switches after them.
use Rattle.std.specs.Prelude.{◌≡◌, ◌⊎◌, ℕ, true, false, nat_eq, ◌<◌, List, All, IsPermutation, Option, map}
use Rattle.std.specs.List.{AllByRecursion}
use Rattle.disk_model.specs.Traces.{DiskTrace}
use Rattle.wan_edge.specs.Ports.{PortTrace}
use Rattle.wan_edge.specs.Streams.{Rose}
use Rattle.port_session.specs.Sessions.{SessionView}
use Rattle.switch_ports.specs.declared.ports.Berth.{Berth}
use Rattle.rollout_book.specs.JournaledRounds.{Journaled}
use Rattle.switch_ports.specs.Berths.{AreApart, AreNamed, FleetPorts, after_keeping, switches_of}
use Rattle.switch_ports.specs.Hands.{berths_of, first_sessions}
use Rattle.switch_ports.specs.Opening.{AreGiven, GivesBack, StopsAt}
use Rattle.shared_book.specs.declared.note.Written.{Written}
use Rattle.shared_book.specs.Histories.{Opening}
use Rattle.shared_book.specs.Legal.{is_legal_shared}
use Rattle.shared_book.specs.Calls.{seat_of}
use Rattle.shared_book.specs.Homes.{homes_of}
use Rattle.shared_book.specs.Images.{HasImages}
use Rattle.shared_book.specs.Lasting.{AllTold}
use Rattle.shared_book.specs.Opened.{IsClosed}
use Rattle.controller_run.specs.Causes.{HasCause, IfStopped}
use Rattle.controller_run.specs.PortRuns.{AreAtHome, IsBack}
use Rattle.controller_run.specs.Runs.{IsRunEnd}
use Rattle.controller_run.specs.Together.{HasWorked}
use Rattle.controller_run.specs.declared.end.RunEnd.{RunEnd}
use Rattle.controller_run.specs.declared.end.RunEnd.TheVariants as run

-- A run that has begun. The book is closed after a legal history of its workers, which says how the run ended; the disk is what that history
-- leaves, and answers that were told cover each operation that it ended. A port was opened to each of these switches, asked for by the name that the problem has for it, and is back as the run has left it; what is kept at any other switch is as it was. Where the run
-- was stopped the cause of the first stop holds. Its workers have worked as the history tells, each over ports of its own.
pub record Ran {D P : Type 0} (trace : D → DiskTrace) (tell : P → PortTrace) (o : Opening) (from count migration rounds : ℕ) (homes : List ℕ) (before : FleetPorts P) (end : RunEnd) (book : Journaled D) (now : FleetPorts P) : Type 0 where
  pub log : List Written
  pub legal : is_legal_shared o log ≡ true
  pub closed : IsClosed o log book
  pub images : HasImages trace o from count book.disk log
  pub heard : AllTold tell migration log
  pub ends : IsRunEnd o log end
  pub berths : List (Berth P)
  pub switches : switches_of berths ≡ homes
  pub apart : AreApart berths
  pub given : AreGiven tell before.waiting berths
  pub asked : AreNamed now.named o.rollout.problem homes
  pub ports : All (IsBack tell o migration (homes_of o.rollout.problem) log now.kept) (first_sessions berths)
  pub at_home : AreAtHome (homes_of o.rollout.problem) log homes
  pub reason : IfStopped end (λ halt. HasCause tell o migration (homes_of o.rollout.problem) rounds (Rose count (trace book.disk).faults) log (first_sessions berths) now.kept halt.cause)
  pub seats : ℕ
  pub made : All (λ w. seat_of w < seats) log
  pub left : List (SessionView P)
  pub worked : HasWorked tell o migration (homes_of o.rollout.problem) rounds (first_sessions berths) seats log left
  pub others : (switch : ℕ) → AllByRecursion (λ home. nat_eq switch home ≡ false) homes → now.kept switch ≡ before.kept switch

-- A run that hasn't: the book is as it was. Of no home a port was opened, or all were opened and given back as they were.
pub record NeverRan {D P : Type 0} (tell : P → PortTrace) (homes : List ℕ) (book_before book : Journaled D) (before now : FleetPorts P) : Type 0 where
  pub same : book ≡ book_before
  pub ports : (now ≡ before) ⊎ GivesBack tell book_before.rollout.problem homes before now

-- the ports that a run has left are those of the same switches, in some order, and were given back
pub record IsBegunOver {P : Type 0} (before now : FleetPorts P) (berths : List (Berth P)) (begun : List (SessionView P) → Type 0) : Type 0 where
  pub ports : List (SessionView P)
  pub runs : begun ports
  pub switches : IsPermutation (switches_of berths) (map (λ t. t.switch) ports)
  pub kept : now ≡ after_keeping before (berths_of ports)

-- what holds of a run by its end
abbrev pub EndsRun : {D P : Type 0} → (P → PortTrace) → List ℕ → Journaled D → Journaled D → FleetPorts P → FleetPorts P → Type 0 → RunEnd → Type 0
EndsRun tell homes book_before book before now ran run.Finished = ran
EndsRun tell homes book_before book before now ran run.Held = ran
EndsRun tell homes book_before book before now ran (run.Stopped halt) = ran
EndsRun tell homes book_before book before now ran (run.NoPort switch) = (book ≡ book_before) × StopsAt tell book_before.rollout.problem homes switch before now
EndsRun tell homes book_before book before now ran run.Memory = NeverRan tell homes book_before book before now

-- A run over ports that were opened. They are back as it has left them; where nothing was begun, as they were.
abbrev pub IsOver : {P : Type 0} → FleetPorts P → FleetPorts P → List (Berth P) → RunEnd → (List (SessionView P) → Type 0) → Type 0 → Type 0
IsOver before now berths run.Finished begun unbegun = IsBegunOver before now berths begun
IsOver before now berths run.Held begun unbegun = IsBegunOver before now berths begun
IsOver before now berths (run.Stopped halt) begun unbegun = IsBegunOver before now berths begun
IsOver before now berths (run.NoPort switch) begun unbegun = ⊥
IsOver before now berths run.Memory begun unbegun = unbegun × (now ≡ after_keeping before berths)

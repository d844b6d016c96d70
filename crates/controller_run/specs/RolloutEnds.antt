-- What a rollout comes to.
use Rattle.std.specs.Prelude.{◌≡◌, ℕ, length}
use Rattle.rollout_rules.specs.Wan.{Rollout}
use Rattle.rollout_rules.specs.History.{History}
use Rattle.rollout_rules.specs.declared.op.OpView.{OpView}
use Rattle.rollout_rules.specs.Legal.{unsettled}
use Rattle.disk_model.specs.Traces.{DiskTrace}
use Rattle.dependency_graph.specs.Graph.{op_total}
use Rattle.intent_journal.specs.Openings.{IsOpenedFrom}
use Rattle.intent_journal.specs.declared.digest.Digest.{Digest}
use Rattle.wan_edge.specs.Ports.{PortTrace}
use Rattle.rollout_book.specs.JournaledRounds.{Journaled, IsNewBook, graph_of}
use Rattle.switch_ports.specs.Berths.{FleetPorts}
use Rattle.switch_ports.specs.Homes.{working_homes}
use Rattle.shared_book.specs.Images.{StaysOpened}
use Rattle.shared_book.specs.Opened.{opening_of}
use Rattle.controller_run.specs.Ran.{EndsRun, Ran}
use Rattle.controller_run.specs.declared.end.RunEnd.{RunEnd}
use Rattle.controller_run.specs.declared.outcome.RunOutcome.{RunOutcome}

-- What a run has come to that ended so: of a rollout, of which so many entries were found, and which has come to this history.
abbrev pub outcome_for : Rollout → ℕ → History → RunEnd → RunOutcome
outcome_for r found h end = record { plan = r; operations = op_total r; found = found; left = unsettled r.problem r.plan h; end = end }

abbrev pub outcome_behind : {D : Type 0} → Journaled D → RunEnd → RunOutcome
outcome_behind book end = outcome_for book.rollout book.found book.history end

-- A book was run from its opening on, and closed; the disk is what it left, and what a crash may have left of it since before the opening goes on from there.
pub record HasRun {D P : Type 0} (trace : D → DiskTrace) (tell : P → PortTrace) (policy : OpView → ℕ) (migration rounds : ℕ) (opened : Journaled D) (before now : FleetPorts P) (disk : D) (outcome : RunOutcome) : Type 0 where
  pub closed : Journaled D
  pub ran : EndsRun tell (working_homes opened.rollout.problem opened.rollout.plan) opened closed before now
      (Ran trace tell (opening_of opened policy) (trace opened.disk).moment (trace opened.disk).faults migration rounds (working_homes opened.rollout.problem opened.rollout.plan) before outcome.end closed now) outcome.end
  pub tells : outcome ≡ outcome_for opened.rollout (length opened.history.entries) closed.history outcome.end
  pub back : disk ≡ closed.disk
  pub stays : StaysOpened trace (opening_of opened policy) (trace opened.disk) disk

-- The book of a rollout was opened on this disk, and run.
pub record HasRolled {D P : Type 0} (trace : D → DiskTrace) (tell : P → PortTrace) (r : Rollout) (digest : Digest) (policy : OpView → ℕ) (rounds : ℕ) (disk : D) (before now : FleetPorts P) (disk_now : D) (outcome : RunOutcome) : Type 0 where
  pub book : Journaled D
  pub opened : IsOpenedFrom trace r digest disk (graph_of book) book.entries book.disk
  pub new : IsNewBook trace book
  pub run : HasRun trace tell policy digest.migration rounds book before now disk_now outcome

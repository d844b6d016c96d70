-- What stands after a rollout: the network is safe, and after status 0 it is at the target.
use Rattle.std.specs.Prelude.{◌≡◌, ◌⊎◌, Bool, true, false, ◌==◌, ℕ, List, [], ◌∷◌, length, Option, Some, None, Ok, IfSome, IsTrue}
use Rattle.std.specs.List.{AllByRecursion, list_any}
use Rattle.rollout_rules.specs.Wan.{Problem, Rollout}
use Rattle.rollout_rules.specs.History.{History, settled, with_entries}
use Rattle.rollout_rules.specs.Legal.{is_finished, is_legal, may_begin}
use Rattle.rollout_rules.specs.Release.{is_held_back, next_op, view_of}
use Rattle.rollout_rules.specs.Safe.{IsSafe}
use Rattle.rollout_rules.specs.declared.op.Entry.{Entry}
use Rattle.rollout_rules.specs.declared.op.OpView.{OpView}
use Rattle.rollout_laws.specs.Good.{AreHeldWithin, places_held}
use Rattle.disk_model.specs.Traces.{DiskTrace}
use Rattle.disk_mirror.specs.Openings.{Opens}
use Rattle.wan_edge.specs.Ports.{PortTrace}
use Rattle.wan_edge.specs.Streams.{Appends}
use Rattle.dependency_graph.specs.Graph.{op_total}
use Rattle.intent_journal.specs.Verdicts.{verdict}
use Rattle.port_session.specs.Sessions.{first_session}
use Rattle.switch_ports.specs.Outboxes.{home_at}
use Rattle.switch_ports.specs.Views.{view}
use Rattle.shared_book.specs.Legal.{is_still}
use Rattle.shared_book.specs.Homes.{homes_of}
use Rattle.switch_ports.specs.declared.ports.Berth.{Berth}
use Rattle.switch_ports.specs.Berths.{AreNamed, FleetPorts, switches_of}
use Rattle.switch_ports.specs.Homes.{working_homes}
use Rattle.switch_ports.specs.Opening.{GivesBack, IsGiven}
use Rattle.switch_laws.specs.Holdings.{AreHeldAt, AreHeldAtEnd}
use Rattle.switch_laws.specs.Runs.{StartsAsFound}
use Rattle.completion_laws.specs.Untold.{EachMayHold}
use Rattle.rollout_report.specs.Journals.{digest_for}
use Rattle.controller_run.specs.declared.running.Limits.{Limits}
use Rattle.intent_journal.specs.Openings.{found_by}
use Rattle.text_commands.specs.Answers.{rollout_to}
use Rattle.swanroll_top.specs.Rollouts.{finished_line}

-- The port of this berth was opened, and one is back at its switch. Where the switch held at entry what the list found allows, and all that its port
-- was told before agrees with that, it holds now what the history allows: each item between what is settled and what is begun. So it is with what the
-- port tells of its switch (holds), and with whatever that may hold by what went out and came back (each).
pub record EndsWithin {P : Type 0} (tell : P → PortTrace) (r : Rollout) (migration : ℕ) (found h : History) (before now : FleetPorts P) (berth : Berth P) : Type 0 where
  pub given : IsGiven tell before.waiting berth
  pub back : P
  pub kept : now.kept berth.switch ≡ Some back
  pub holds : StartsAsFound r migration (homes_of r.problem) found (view tell (first_session berth.switch berth.port))
      → IfSome (tell back).offered (λ _. IfSome (tell back).heard (λ _. IfSome (tell back).held (AreHeldAt r migration (homes_of r.problem) berth.switch h)))
  pub each : EachMayHold r migration (homes_of r.problem) found (view tell (first_session berth.switch berth.port)) (tell back) (AreHeldAt r migration (homes_of r.problem) berth.switch h)

-- The same after a history in which all is settled: it holds exactly the target.
pub record EndsAtTarget {P : Type 0} (tell : P → PortTrace) (r : Rollout) (migration : ℕ) (found : History) (before now : FleetPorts P) (berth : Berth P) : Type 0 where
  pub given : IsGiven tell before.waiting berth
  pub back : P
  pub kept : now.kept berth.switch ≡ Some back
  pub holds : StartsAsFound r migration (homes_of r.problem) found (view tell (first_session berth.switch berth.port))
      → IfSome (tell back).offered (λ _. IfSome (tell back).heard (λ _. IfSome (tell back).held (AreHeldAtEnd r migration (homes_of r.problem) berth.switch found.start)))
  pub each : EachMayHold r migration (homes_of r.problem) found (view tell (first_session berth.switch berth.port)) (tell back) (AreHeldAtEnd r migration (homes_of r.problem) berth.switch found.start)

-- whether a home is one of these switches
abbrev pub is_among : List ℕ → Option ℕ → Bool
is_among switches None = false
is_among switches (Some switch) = list_any (λ s. switch == s) switches

-- The input, of which this test holds, is a rollout, and it was begun. The disk was opened, and told an image. After the history that was found there are entries with which it is
-- legal, and whatever the switches hold between what it settles and what it begins, and whichever of their next updates have applied, the network is safe. Each switch with an
-- operation has a port, which was asked for by the name that the problem has for it, and holds what that history allows; of an item whose home is another switch nothing was settled.
pub record StaysSafe {D P : Type 0} (trace : D → DiskTrace) (tell : P → PortTrace) (limits : Limits) (Given : List ℕ → Type 0) (disk : D) (before now : FleetPorts P) : Type 0 where
  pub input : List ℕ
  pub given : Given input
  pub r : Rollout
  pub is : rollout_to input ≡ Ok r
  pub opened : D
  pub opens : Opens (trace disk) (trace opened)
  pub image : List ℕ
  pub stored : (trace opened).bytes ≡ Some image
  pub found : History
  pub begins : found_by r (verdict r (digest_for r limits.migration) image) ≡ Some found
  pub added : List Entry
  pub legal : is_legal r.problem r.plan (with_entries found added) ≡ true
  pub safe : (held : ℕ → ℕ) → AreHeldWithin r.problem (with_entries found added) held → IsSafe r.problem r.plan (places_held r.problem held)
  pub berths : List (Berth P)
  pub switches : switches_of berths ≡ working_homes r.problem r.plan
  pub asked : AreNamed now.named r.problem (working_homes r.problem r.plan)
  pub ports : AllByRecursion (EndsWithin tell r limits.migration found (with_entries found added) before now) berths
  pub rest : (n : ℕ) → is_among (working_homes r.problem r.plan) (home_at (homes_of r.problem) n) ≡ false → settled (with_entries found added) n ≡ settled found n

-- So it is, every operation is settled, and the switches are at the target. And the line of it was written.
pub record ReachesTarget {D P : Type 0} (trace : D → DiskTrace) (tell : P → PortTrace) (limits : Limits) (Given : List ℕ → Type 0) (disk : D) (before now : FleetPorts P) (out out_now : Option (List ℕ)) : Type 0 where
  pub stays : StaysSafe trace tell limits Given disk before now
  pub finished : is_finished stays.r.problem stays.r.plan (with_entries stays.found stays.added) ≡ true
  pub ports : AllByRecursion (EndsAtTarget tell stays.r limits.migration stays.found before now) stays.berths
  pub line : Appends out (finished_line (op_total stays.r) (length stays.found.entries)) out_now

-- So it is, not every operation is settled, none is in flight, and each that may begin is one that the policy holds back.
pub record RestsHeld {D P : Type 0} (trace : D → DiskTrace) (tell : P → PortTrace) (limits : Limits) (policy : OpView → ℕ) (Given : List ℕ → Type 0) (disk : D) (before now : FleetPorts P) : Type 0 where
  pub stays : StaysSafe trace tell limits Given disk before now
  pub unfinished : is_finished stays.r.problem stays.r.plan (with_entries stays.found stays.added) ≡ false
  pub still : is_still stays.r.problem (with_entries stays.found stays.added) ≡ true
  pub held : (n : ℕ) → may_begin stays.r.problem stays.r.plan (with_entries stays.found stays.added) (next_op (with_entries stays.found stays.added) n) ≡ true
      → is_held_back policy (view_of stays.r.problem stays.r.plan (with_entries stays.found stays.added) n) ≡ true

-- the statuses that come only after a rollout that was begun
abbrev pub IsOfBegun : ℕ → Type 0
IsOfBegun status = IsTrue (list_any (λ s. s == status) (0 ∷ 5 ∷ 7 ∷ 11 ∷ 14 ∷ []))

-- nothing went out: the ports of the fleet are as they were, or some were given and given back, each as it was
abbrev pub BeginsNothing : {P : Type 0} → (P → PortTrace) → FleetPorts P → FleetPorts P → Type 0
BeginsNothing tell before now = (now ≡ before) ⊎ ((p : Problem) × (homes : List ℕ) × GivesBack tell p homes before now)

-- at every end: nothing was begun, or the network is safe
abbrev pub EndsSafely : {D P : Type 0} → (D → DiskTrace) → (P → PortTrace) → Limits → (List ℕ → Type 0) → D → FleetPorts P → FleetPorts P → Type 0
EndsSafely trace tell limits Given disk before now = BeginsNothing tell before now ⊎ StaysSafe trace tell limits Given disk before now

-- What stands after a drain: the network is safe, and nothing was begun after the list found; after status 0 nothing is in flight, and each switch holds
-- the contents of what is settled.
use Rattle.std.specs.Prelude.{◌≡◌, ◌⊎◌, ℕ, ◌<◌, ◌≤◌, List, All, Option, Some, IfSome}
use Rattle.std.specs.List.{AllByRecursion}
use Rattle.rollout_rules.specs.Sums.{sum_below}
use Rattle.rollout_rules.specs.Wan.{Rollout}
use Rattle.rollout_rules.specs.Items.{item_at, item_count}
use Rattle.rollout_rules.specs.Operations.{content_after}
use Rattle.rollout_rules.specs.History.{History, begins_in, begun, settled, with_entries}
use Rattle.rollout_rules.specs.Agent.{Holding, pair_of}
use Rattle.rollout_laws.specs.Waiting.{NothingFlies}
use Rattle.disk_model.specs.Traces.{DiskTrace}
use Rattle.dependency_graph.specs.Graph.{op_total}
use Rattle.wan_edge.specs.Frames.{Command}
use Rattle.wan_edge.specs.Ports.{AppendsFront, PortTrace}
use Rattle.wan_edge.specs.Streams.{Appends}
use Rattle.wan_edge.specs.Switches.{Holdings}
use Rattle.port_session.specs.Offers.{frames_of}
use Rattle.port_session.specs.Sessions.{first_session}
use Rattle.switch_ports.specs.Outboxes.{home_at, own}
use Rattle.switch_ports.specs.Views.{view}
use Rattle.switch_ports.specs.declared.ports.Berth.{Berth}
use Rattle.shared_book.specs.Homes.{homes_of}
use Rattle.switch_ports.specs.Berths.{FleetPorts}
use Rattle.switch_ports.specs.Opening.{IsGiven}
use Rattle.switch_laws.specs.Holdings.{IsUntouched}
use Rattle.switch_laws.specs.Runs.{StartsAsFound}
use Rattle.completion_laws.specs.Untold.{EachMayHold}
use Rattle.controller_run.specs.declared.running.Limits.{Limits}
use Rattle.swanroll_top.specs.Drains.{drained_line}
use Rattle.swanroll_top.specs.Targets.{BeginsNothing, StaysSafe}

-- ---- what the switches hold

-- It holds the pair of the last operation that is settled, and the content that this brought.
pub record IsMovedToSettled (r : Rollout) (migration : ℕ) (h : History) (n : ℕ) (holding : Holding) : Type 0 where
  pub pair : holding.held ≡ pair_of migration (settled h n)
  pub content : 0 < settled h n → holding.content ≡ content_after r.problem r.plan (item_at r.problem n) (settled h n)

-- What a switch holds of item n where nothing is in flight: that, or what an earlier migration left, where nothing is settled since the start.
abbrev pub IsHeldSettled : Rollout → ℕ → History → ℕ → Holding → Type 0
IsHeldSettled r migration h n holding = IsMovedToSettled r migration h n holding ⊎ IsUntouched migration h n holding

abbrev pub AreHeldSettled : Rollout → ℕ → List (Option ℕ) → ℕ → History → Holdings → Type 0
AreHeldSettled r migration homes switch h holdings =
    (n : ℕ) → n < item_count r.problem → home_at homes n ≡ Some switch → IsHeldSettled r migration h n (holdings n)

-- The port of this berth was opened, and one is back at its switch. As after a rollout, where the switch held at entry what the list found allows it holds exactly what
-- is settled now: by what the port tells of it (holds), and whatever it may hold by what went out and came back (each).
pub record EndsSettled {P : Type 0} (tell : P → PortTrace) (r : Rollout) (migration : ℕ) (found h : History) (before now : FleetPorts P) (berth : Berth P) : Type 0 where
  pub given : IsGiven tell before.waiting berth
  pub back : P
  pub kept : now.kept berth.switch ≡ Some back
  pub holds : StartsAsFound r migration (homes_of r.problem) found (view tell (first_session berth.switch berth.port))
      → IfSome (tell back).offered (λ _. IfSome (tell back).heard (λ _. IfSome (tell back).held (AreHeldSettled r migration (homes_of r.problem) berth.switch h)))
  pub each : EachMayHold r migration (homes_of r.problem) found (view tell (first_session berth.switch berth.port)) (tell back) (AreHeldSettled r migration (homes_of r.problem) berth.switch h)

-- ---- what went out

-- the command is of an operation that was begun in this history
abbrev pub IsBegunIn : History → Command → Type 0
IsBegunIn h c = c.number ≤ begun h c.item

-- One port is back at the switch of this berth. After what had gone out there before, no more went out than a front of the frames of commands that the list found has begun.
pub record SendsAgain {P : Type 0} (tell : P → PortTrace) (r : Rollout) (migration : ℕ) (found : History) (now : FleetPorts P) (berth : Berth P) : Type 0 where
  pub back : P
  pub kept : now.kept berth.switch ≡ Some back
  pub sent : List Command
  pub each : All (IsBegunIn found) sent
  pub part : AppendsFront (tell berth.port).offered (frames_of migration (own (homes_of r.problem) berth.switch sent)) (tell back).offered

-- ---- after a drain

-- The input is a rollout, and it was begun to drain it. It is safe, as each rollout is that was begun; after the list found stand answers alone, and commands of that list alone went out.
pub record DrainsSafely {D P : Type 0} (trace : D → DiskTrace) (tell : P → PortTrace) (limits : Limits) (Given : List ℕ → Type 0) (disk : D) (before now : FleetPorts P) : Type 0 where
  pub stays : StaysSafe trace tell limits Given disk before now
  pub dones : (n : ℕ) → begins_in stays.added n ≡ 0
  pub sends : AllByRecursion (SendsAgain tell stays.r limits.migration stays.found now) stays.berths

-- at every end: nothing was begun, or so it is
abbrev pub EndsDrainSafely : {D P : Type 0} → (D → DiskTrace) → (P → PortTrace) → Limits → (List ℕ → Type 0) → D → FleetPorts P → FleetPorts P → Type 0
EndsDrainSafely trace tell limits Given disk before now = BeginsNothing tell before now ⊎ DrainsSafely trace tell limits Given disk before now

-- how many operations of all items are settled
abbrev pub settled_in_all : Rollout → History → ℕ
settled_in_all r h = sum_below (item_count r.problem) (settled h)

-- So it is, nothing is in flight, each switch holds the contents of what is settled, and the line of it was written.
pub record IsDrained {D P : Type 0} (trace : D → DiskTrace) (tell : P → PortTrace) (limits : Limits) (Given : List ℕ → Type 0) (disk : D) (before now : FleetPorts P) (out out_now : Option (List ℕ)) : Type 0 where
  pub drains : DrainsSafely trace tell limits Given disk before now
  pub still : NothingFlies drains.stays.r.problem (with_entries drains.stays.found drains.stays.added)
  pub ports : AllByRecursion (EndsSettled tell drains.stays.r limits.migration drains.stays.found (with_entries drains.stays.found drains.stays.added) before now) drains.stays.berths
  pub line : Appends out (drained_line (op_total drains.stays.r) (settled_in_all drains.stays.r (with_entries drains.stays.found drains.stays.added))) out_now

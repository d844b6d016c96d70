-- What stands after a rollback: the network is safe, nothing was begun past what the list found had begun but what leads up to a stage, and after status 0
-- exactly so much is settled and the journal of the way back stands, which begins there.
use Rattle.std.specs.Prelude.{◌≡◌, ◌⊎◌, ⊤, ℕ, ◌<◌, ◌≤◌, true, List, ◌++◌, All, Option, Some, IfSome, IsTrue, slice_index}
use Rattle.std.specs.List.{AllByRecursion}
use Rattle.rollout_rules.specs.Wan.{Rollout}
use Rattle.rollout_rules.specs.Items.{content, item_at, item_count}
use Rattle.rollout_rules.specs.Operations.{changes_to}
use Rattle.rollout_rules.specs.History.{History, with_entries}
use Rattle.rollout_rules.specs.Legal.{is_legal}
use Rattle.rollout_rules.specs.Agent.{Holding, pair_of}
use Rattle.rollout_rules.specs.declared.op.Entry.{Entry}
use Rattle.disk_model.specs.Traces.{DiskTrace}
use Rattle.wan_edge.specs.Frames.{Command}
use Rattle.wan_edge.specs.Ports.{AppendsFront, PortTrace}
use Rattle.wan_edge.specs.Streams.{Appends}
use Rattle.wan_edge.specs.Switches.{Holdings}
use Rattle.intent_journal.specs.Images.{journal_in}
use Rattle.intent_journal.specs.Openings.{IsOpenedOn}
use Rattle.rollout_book.specs.Lists.{HasList}
use Rattle.port_session.specs.Offers.{frames_of}
use Rattle.port_session.specs.Sessions.{first_session}
use Rattle.switch_ports.specs.Outboxes.{home_at, own}
use Rattle.switch_ports.specs.Views.{view}
use Rattle.switch_ports.specs.declared.ports.Berth.{Berth}
use Rattle.shared_book.specs.Homes.{homes_of}
use Rattle.switch_ports.specs.Berths.{FleetPorts}
use Rattle.switch_ports.specs.Opening.{IsGiven}
use Rattle.switch_laws.specs.Runs.{StartsAsFound}
use Rattle.completion_laws.specs.Untold.{EachMayHold}
use Rattle.rollback_plan.specs.Levels.{back_start, is_levelled}
use Rattle.rollback_plan.specs.Turns.{BeginsBack, HasComeSoFar, IsOnTheTurn, comes_to}
use Rattle.rollback_service.specs.Levellings.{TurnsFrom, ceiling_of, start_of}
use Rattle.rollback_service.specs.Placings.{HasPlaced, kept_from}
use Rattle.rollback_service.specs.declared.origin.BackFrom.{BackFrom}
use Rattle.rollback_service.specs.declared.origin.BackFrom.TheVariants as whence
use Rattle.rollout_report.specs.Journals.{digest_for}
use Rattle.controller_run.specs.declared.running.Limits.{Limits}
use Rattle.swanroll_top.specs.DrainTargets.{EndsSettled}
use Rattle.swanroll_top.specs.Rollbacks.{back_text}
use Rattle.text_commands.specs.Safety.{MayBeginBack}
use Rattle.swanroll_top.specs.Targets.{BeginsNothing, StaysSafe}

-- ---- what the switches hold at a level

-- how many operations of item n lead to a stage up to this one
abbrev pub operations_to : Rollout → ℕ → ℕ → ℕ
operations_to r s n = changes_to r.problem r.plan (item_at r.problem n) s

-- It holds the pair of the last operation up to the stage, and the content of the stage.
pub record IsMovedToStage (r : Rollout) (migration s n : ℕ) (holding : Holding) : Type 0 where
  pub pair : holding.held ≡ pair_of migration (operations_to r s n)
  pub content : 0 < operations_to r s n → holding.content ≡ content r.problem r.plan (item_at r.problem n) s

-- It holds what an earlier migration left, and the item has no operation up to the stage after the start.
pub record IsLeftAtStage (r : Rollout) (migration s : ℕ) (start : List ℕ) (n : ℕ) (holding : Holding) : Type 0 where
  pub earlier : holding.held.migration < migration
  pub none_left : operations_to r s n ≡ slice_index start n

-- what a switch holds of item n where a rollout is level at a stage
abbrev pub IsHeldAtStage : Rollout → ℕ → ℕ → List ℕ → ℕ → Holding → Type 0
IsHeldAtStage r migration s start n holding = IsMovedToStage r migration s n holding ⊎ IsLeftAtStage r migration s start n holding

abbrev pub AreHeldAtStage : Rollout → ℕ → ℕ → List (Option ℕ) → ℕ → List ℕ → Holdings → Type 0
AreHeldAtStage r migration s homes switch start holdings =
    (n : ℕ) → n < item_count r.problem → home_at homes n ≡ Some switch → IsHeldAtStage r migration s start n (holdings n)

-- The port of this berth was opened, and one is back at its switch. As after a rollout, where the switch held at entry what the list found allows it holds exactly the
-- contents of the stage now: by what the port tells of it (holds), and whatever it may hold by what went out and came back (each).
pub record EndsAtStage {P : Type 0} (tell : P → PortTrace) (r : Rollout) (migration s : ℕ) (found : History) (before now : FleetPorts P) (berth : Berth P) : Type 0 where
  pub given : IsGiven tell before.waiting berth
  pub back : P
  pub kept : now.kept berth.switch ≡ Some back
  pub holds : StartsAsFound r migration (homes_of r.problem) found (view tell (first_session berth.switch berth.port))
      → IfSome (tell back).offered (λ _. IfSome (tell back).heard (λ _. IfSome (tell back).held (AreHeldAtStage r migration s (homes_of r.problem) berth.switch found.start)))
  pub each : EachMayHold r migration (homes_of r.problem) found (view tell (first_session berth.switch berth.port)) (tell back) (AreHeldAtStage r migration s (homes_of r.problem) berth.switch found.start)

-- ---- what went out

-- the command is of an operation that the list found had begun, or that leads to a stage up to this one
abbrev pub LeadsSoFar : Rollout → History → ℕ → Command → Type 0
LeadsSoFar r found s c = c.number ≤ comes_to r.problem r.plan found s c.item

-- One port is back at the switch of this berth. After what had gone out there before, no more went out than a front of the frames of such commands.
pub record SendsSoFar {P : Type 0} (tell : P → PortTrace) (r : Rollout) (migration : ℕ) (found : History) (s : ℕ) (now : FleetPorts P) (berth : Berth P) : Type 0 where
  pub back : P
  pub kept : now.kept berth.switch ≡ Some back
  pub sent : List Command
  pub each : All (LeadsSoFar r found s) sent
  pub part : AppendsFront (tell berth.port).offered (frames_of migration (own (homes_of r.problem) berth.switch sent)) (tell back).offered

-- ---- what a crash leaves

-- The image is a journal with a legal list that begins with the one found.
pub record HasListFrom (r : Rollout) (found : History) (image : List ℕ) : Type 0 where
  pub past : List Entry
  pub legal : is_legal r.problem r.plan (with_entries found past) ≡ true
  pub has : HasList found.start (found.entries ++ past) image

-- that, or the journal of the way back from this start
abbrev pub IsFoundOrPlaced : Rollout → ℕ → List ℕ → History → List ℕ → Type 0
IsFoundOrPlaced r migration start found image = HasListFrom r found image ⊎ (journal_in image ≡ Some (kept_from r migration start))

-- ---- after a rollback

-- The input is a rollout, and it was begun to level it: at the stage to which the list found had come, or at the first one at which it may turn. It is safe, as each rollout is that was begun.
pub record LevelsSafely {D P : Type 0} (trace : D → DiskTrace) (tell : P → PortTrace) (origin : BackFrom) (limits : Limits) (Given : List ℕ → Type 0) (disk disk_now : D) (before now : FleetPorts P) : Type 0 where
  pub stays : StaysSafe trace tell limits Given disk before now
  pub stage : ℕ
  pub turns : TurnsFrom origin stays.r stays.found stage
  -- each list on the way is legal, so it is safe, and nothing is begun past what the list found had begun but what leads up to the stage
  pub way : (front rest : List Entry) → front ++ rest ≡ stays.added → IsOnTheTurn stays.r.problem stays.r.plan stays.found stage (with_entries stays.found front)
  -- what went out are commands of such operations
  pub sends : AllByRecursion (SendsSoFar tell stays.r limits.migration stays.found stage now) stays.berths
  -- from the moment on at which the journal was opened, a crash leaves one with a list that begins with the one found, or that of the way back
  pub journal : D
  pub opened : IsOpenedOn trace stays.r (digest_for stays.r limits.migration) stays.opened journal
  pub crash : IfSome (trace disk_now).bytes
      (λ _. (c : List ℕ) → (trace disk_now).left_since (trace journal).moment c → IsFoundOrPlaced stays.r limits.migration (start_of stays.r stays.found stage) stays.found c)

-- at every end: nothing was begun, or so it is
abbrev pub EndsBackSafely : {D P : Type 0} → (D → DiskTrace) → (P → PortTrace) → BackFrom → Limits → (List ℕ → Type 0) → D → D → FleetPorts P → FleetPorts P → Type 0
EndsBackSafely trace tell origin limits Given disk disk_now before now = BeginsNothing tell before now ⊎ LevelsSafely trace tell origin limits Given disk disk_now before now

-- A rollout that was taken back from a level is level: all items have the content of the stage to which the list found had come, and so do the switches; and the way back begins where it has that content.
pub record IsLevelThere {P : Type 0} (tell : P → PortTrace) (r : Rollout) (migration : ℕ) (found : History) (added : List Entry) (start : List ℕ) (before now : FleetPorts P) (berths : List (Berth P)) : Type 0 where
  pub level : IsTrue (is_levelled r.problem r.plan (with_entries found added) (ceiling_of r found))
  pub ports : AllByRecursion (EndsAtStage tell r migration (ceiling_of r found) found before now) berths
  pub begins : start ≡ back_start r.problem r.plan (ceiling_of r found)
  pub starts : MayBeginBack r.problem r.plan (ceiling_of r found)

-- where a rollback from a level was asked for
abbrev pub OnLevel : BackFrom → Type 0 → Type 0
OnLevel whence.Level holds = holds
OnLevel whence.Here holds = ⊤

-- So it is, each item has come exactly so far, and nothing is in flight: each switch holds the contents of what is settled. The journal of the way back stands, it begins there with those
-- contents, and its document was written.
pub record IsTakenBack {D P : Type 0} (trace : D → DiskTrace) (tell : P → PortTrace) (origin : BackFrom) (limits : Limits) (Given : List ℕ → Type 0) (disk disk_now : D) (before now : FleetPorts P) (out out_now : Option (List ℕ)) : Type 0 where
  pub levels : LevelsSafely trace tell origin limits Given disk disk_now before now
  pub come : HasComeSoFar levels.stays.r.problem levels.stays.r.plan levels.stays.found levels.stage (with_entries levels.stays.found levels.stays.added)
  pub ports : AllByRecursion (EndsSettled tell levels.stays.r limits.migration levels.stays.found (with_entries levels.stays.found levels.stays.added) before now) levels.stays.berths
  pub placed : HasPlaced trace (kept_from levels.stays.r limits.migration (start_of levels.stays.r levels.stays.found levels.stage)) disk_now
  pub starts : BeginsBack levels.stays.r.problem levels.stays.r.plan levels.stays.found levels.stage
  -- from a level, the stage is the one to which the list found had come, and all are there
  pub level : OnLevel origin
      (IsLevelThere tell levels.stays.r limits.migration levels.stays.found levels.stays.added (start_of levels.stays.r levels.stays.found levels.stage) before now levels.stays.berths)
  pub text : Appends out (back_text levels.stays.r) out_now

-- The promise of `takeover`, which asks the switches of the rollout of its input what they hold, places a journal from there, and rolls out the rest.
-- Its premises are no clause, since no call can test them: the migration began with start 0 of every item; the term is above that of each controller
-- before; the input is the document of the controller before; and no agent was started anew without what it held.
use Rattle.std.specs.Prelude.{◌≡◌, ℕ, List, drop, String, Option, Some, None, Result, IfErr, IfOk}
use Rattle.std.specs.declared.alloc.Global.{Global}
use Rattle.switch_ports.specs.Berths.{ports_of}
use Rattle.agent_service.specs.Services.{guests_of}
use Rattle.rollout_rules.specs.Wan.{Rollout}
use Rattle.rollout_rules.specs.declared.op.OpView.{OpView}
use Rattle.wan_edge.specs.Streams.{Rose}
use Rattle.text_commands.specs.CommandEnds.{ending_of_unread}
use Rattle.text_commands.specs.declared.arguments.Unread.{Unread}
use Rattle.text_commands.specs.declared.command_end.CommandEnd.TheVariants.{Usage}
use Rattle.swanroll_top.specs.Promise.{EndsUnread}
use Rattle.swanroll_top.specs.Views.{Outside, Views, input_of, used, written_at}
use Rattle.swanroll_top.specs.Rollouts.{fleet_of}
use Rattle.takeover_top.specs.Endings.{Told}
use Rattle.takeover_top.specs.ReadyToTake.{EndsWell, IsGivenFor, IsReadyToTake, TakesNoFault}
use Rattle.takeover_top.specs.Takings.{Takes}
use Rattle.takeover_top.specs.TakenTargets.{EndsTaken, IsOfTaken, RefusesStart, TakesSafely, TakesToTarget}
use Rattle.takeover_top.specs.TakingWords.{Taking, taking_by}
use Rattle.takeover_top.specs.declared.ending.TakeoverEnding.{TakeoverEnding}

pub record TakeoverPromise {S K D F P G : Type 0} (views : Views S K D F P G) (of_term : F → ℕ) (taking : Taking) (before : Outside S K D F) (status : ℕ) (after : Outside S K D F) : Type 0 where
  -- the fleet is of the term that was asked for: by its type nothing goes out over its ports without it
  pub term : of_term before.fleet ≡ taking.term
  -- how it ended
  pub ending : TakeoverEnding
  -- what it has brought about that ended so, from the bytes read to those written
  pub does : Takes views.disk views.port
      (views.source before.source) (views.source after.source) taking.limits taking.policy before.disk after.disk (fleet_of (views.fleet before.fleet)) (fleet_of (views.fleet after.fleet)) ending (views.sink before.sink) (views.sink after.sink)
  -- the status and the line are those of the ending, or of lack of memory for its line
  pub told : Told ending status (views.sink before.notes) (views.sink after.notes)
  -- no guest is asked for
  pub serves : guests_of (views.fleet after.fleet) ≡ guests_of (views.fleet before.fleet)
  pub visiting : (views.fleet after.fleet).visiting ≡ (views.fleet before.fleet).visiting
  -- a fault comes only where its object counted one
  pub read_fault : status ≡ 6 → Rose (views.source before.source).faults (views.source after.source).faults
  pub write_fault : status ≡ 7 → Rose (views.sink before.sink).faults (views.sink after.sink).faults
  pub disk_fault : status ≡ 8 → Rose (views.disk before.disk).faults (views.disk after.disk).faults
  -- whatever the status, nothing went out but questions, or the network is safe
  pub ends : EndsTaken views.disk views.port
      taking.limits (input_of views (used before) (used after)) before.disk after.disk (ports_of (views.fleet before.fleet)) (ports_of (views.fleet after.fleet))
  -- it is safe after each takeover that was begun
  pub safe : IsOfTaken status
      → TakesSafely views.disk views.port taking.limits (input_of views (used before) (used after)) before.disk after.disk (ports_of (views.fleet before.fleet)) (ports_of (views.fleet after.fleet))
  -- and after status 0 it is at the target
  pub target : status ≡ 0
      → TakesToTarget views.disk views.port taking.limits (input_of views (used before) (used after)) before.disk after.disk (ports_of (views.fleet before.fleet)) (ports_of (views.fleet after.fleet))
      (written_at views (used before)) (written_at views (used after))
  -- status 13 comes where the start isn't sound, and then nothing went out but questions, and the disk is as it was
  pub refused : status ≡ 13
      → RefusesStart views.port taking.limits (input_of views (used before) (used after)) before.disk after.disk (ports_of (views.fleet before.fleet)) (ports_of (views.fleet after.fleet))
  -- Where the input is a rollout, the disk is blank or has a journal, the switches hold a sound start and their ports answer all at once, rounds are given, and
  -- no count of faults has risen, the status is 0, or 14 where the policy holds back what is left, or 12 for lack of memory.
  pub completes : (r : Rollout) (start : List ℕ) → IsGivenFor (views.source before.source) (views.source after.source) (views.disk before.disk).bytes r
      → IsReadyToTake views.port taking.limits (views.fleet before.fleet).waiting r start → TakesNoFault views before after → EndsWell taking.policy status

-- words that are none of a takeover leave all as it was
abbrev pub ByWords : {S K D F P G : Type 0} → Views S K D F P G → (F → ℕ) → Option Taking → Outside S K D F → ℕ → Outside S K D F → Type 0
ByWords views of_term None before status after = EndsUnread views Usage before status after
ByWords views of_term (Some taking) before status after = TakeoverPromise views of_term taking before status after

-- The promise by the arguments, seen as this list, with these policies: the program's own name is passed over.
pub record StartsTakeover {A S K D F P G : Type 0} (views : Views S K D F P G) (of_term : F → ℕ) (policies : List (List ℕ × (OpView → ℕ))) (arguments : Result A Unread) (list : A → List (String Global))
    (before : Outside S K D F) (status : ℕ) (after : Outside S K D F) : Type 0 where
  pub read : IfOk arguments (λ all. ByWords views of_term (taking_by policies (drop 1 (list all))) before status after)
  pub unread : IfErr arguments (λ why. EndsUnread views (ending_of_unread why) before status after)

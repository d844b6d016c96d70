-- The promise of the call: all that it brings about, by what its words ask for.
use Rattle.std.specs.Prelude.{◌≡◌, ◌≢◌, ⊤, Bool, true, false, ◌||◌, ℕ, List, drop, String, Option, Some, None, Result, IsTrue, IfErr, IfOk}
use Rattle.std.specs.declared.alloc.Global.{Global}
use Rattle.switch_ports.specs.Berths.{ports_of}
use Rattle.rollout_rules.specs.declared.op.OpView.{OpView}
use Rattle.wan_edge.specs.Streams.{Rose}
use Rattle.swanroll_top.specs.AgentPromise.{AgentPromise, BringsService}
use Rattle.swanroll_top.specs.DrainPromise.{BringsDrain, DrainPromise}
use Rattle.text_commands.specs.CommandEnds.{ending_of_unread}
use Rattle.swanroll_top.specs.HeldPromise.{BringsHeld, HeldPromise}
use Rattle.text_commands.specs.Program.{IsEnded, IsRun}
use Rattle.swanroll_top.specs.ReportPromise.{BringsReport, ReportPromise}
use Rattle.swanroll_top.specs.RollbackPromise.{BringsRollback, RollbackPromise}
use Rattle.swanroll_top.specs.RunPromise.{BringsRollout, RunPromise}
use Rattle.text_commands.specs.Runs.{Runs}
use Rattle.text_commands.specs.TextPromise.{TextPromise}
use Rattle.swanroll_top.specs.TrialPromise.{TrialPromise}
use Rattle.swanroll_top.specs.Tries.{RunsTrial}
use Rattle.text_commands.specs.Uses.{Uses}
use Rattle.swanroll_top.specs.Uses.{uses_of}
use Rattle.swanroll_top.specs.Views.{Objects, Outside, Views, source_at, streams, used, written_at}
use Rattle.swanroll_top.specs.Words.{Asked, a_drain, a_report, a_rollback, a_run, a_text, a_trial, an_agent, asked_by, what_is_held}
use Rattle.text_commands.specs.declared.arguments.Unread.{Unread}
use Rattle.text_commands.specs.declared.command_end.CommandEnd.{CommandEnd}
use Rattle.text_commands.specs.declared.command_end.CommandEnd.TheVariants.{Usage, ReadFault, WriteFault, DiskFault, GuestFault, NotFinished}
use Rattle.text_commands.specs.declared.unfinished.Unfinished.{Unfinished}

-- ---- what a command doesn't use

-- what isn't used is as it was
abbrev pub UnlessUsed : {X : Type 0} → Bool → X → X → Type 0
UnlessUsed true before after = ⊤
UnlessUsed false before after = after ≡ before

-- What a command leaves that uses only these.
pub record LeavesUnnamed {S K D F P G : Type 0} (views : Views S K D F P G) (uses : Uses) (before after : Objects S K D F) : Type 0 where
  -- a source that isn't read
  pub unread : UnlessUsed uses.input before.source after.source
  -- a disk without a journal
  pub disk : UnlessUsed uses.journal before.disk after.disk
  -- a fleet without ports to open or guests to serve
  pub fleet : UnlessUsed (uses.ports || uses.guests) before.fleet after.fleet
  -- the ports of a fleet whose guests are served
  pub ports : UnlessUsed uses.ports (ports_of (views.fleet before.fleet)) (ports_of (views.fleet after.fleet))

-- ---- by the ending, before anything is noted

-- what each command has brought about that ended so
abbrev pub Brings : {S K D F P G : Type 0} → Views S K D F P G → Asked → Objects S K D F → CommandEnd → Objects S K D F → Type 0
Brings views (a_text what) before ending after = Runs what (source_at views before) (source_at views after) ending (written_at views before) (written_at views after)
Brings views (a_report migration) before ending after = BringsReport views migration before ending after
Brings views (an_agent guests) before ending after = BringsService views guests before ending after
Brings views (a_trial shape policy) before ending after = RunsTrial policy shape (source_at views before) (source_at views after) ending (written_at views before) (written_at views after)
Brings views (a_run limits policy) before ending after = BringsRollout views limits policy before ending after
Brings views (a_drain limits) before ending after = BringsDrain views limits before ending after
Brings views (a_rollback limits origin) before ending after = BringsRollback views origin limits before ending after
Brings views (what_is_held rounds) before ending after = BringsHeld views rounds before ending after

-- What is so of every command that ended so.
pub record Ran {S K D F P G : Type 0} (views : Views S K D F P G) (asked : Asked) (before : Objects S K D F) (ending : CommandEnd) (after : Objects S K D F) : Type 0 where
  -- what it has brought about
  pub brings : Brings views asked before ending after
  -- a fault comes only where its object counted one
  pub read_fault : ending ≡ ReadFault → Rose (views.source before.source).faults (views.source after.source).faults
  pub write_fault : ending ≡ WriteFault → Rose (views.sink before.sink).faults (views.sink after.sink).faults
  pub disk_fault : ending ≡ DiskFault → IsTrue (uses_of (Some asked)).journal × Rose (views.disk before.disk).faults (views.disk after.disk).faults
  pub guest_fault : ending ≡ GuestFault → IsTrue (uses_of (Some asked)).guests × Rose (views.fleet before.fleet).faults (views.fleet after.fleet).faults
  -- only a rollout is begun and not finished, or only some switches told what they hold
  pub unfinished : (u : Unfinished) → ending ≡ NotFinished u → IsTrue (uses_of (Some asked)).ports
  -- no command ends as words do that are no command line
  pub ran : ending ≢ Usage
  -- what it doesn't use is as it was
  pub unnamed : LeavesUnnamed views (uses_of (Some asked)) before after
  -- as many guests are out as at first
  pub visiting : (views.fleet after.fleet).visiting ≡ (views.fleet before.fleet).visiting

-- ---- by the status

-- what each command promises; words that are no command line, nothing more
abbrev pub Keeps : {S K D F P G : Type 0} → Views S K D F P G → Option Asked → Outside S K D F → ℕ → Outside S K D F → Type 0
Keeps views None before status after = ⊤
Keeps views (Some (a_text what)) before status after = TextPromise what (streams views before) (streams views after) status
Keeps views (Some (a_report migration)) before status after = ReportPromise views migration before status after
Keeps views (Some (an_agent guests)) before status after = AgentPromise views guests before status after
Keeps views (Some (a_trial shape policy)) before status after = TrialPromise policy shape (streams views before) (streams views after) status
Keeps views (Some (a_run limits policy)) before status after = RunPromise views limits policy before status after
Keeps views (Some (a_drain limits)) before status after = DrainPromise views limits before status after
Keeps views (Some (a_rollback limits origin)) before status after = RollbackPromise views origin limits before status after
Keeps views (Some (what_is_held rounds)) before status after = HeldPromise views rounds before status after

-- The promise of the call.
pub record Promise {S K D F P G : Type 0} (views : Views S K D F P G) (asked : Option Asked) (before : Outside S K D F) (status : ℕ) (after : Outside S K D F) : Type 0 where
  -- which statuses there are, that no object is said to have failed that didn't, and that the notes have the line of the status
  pub run : IsRun (uses_of asked) asked (streams views before) (streams views after) status
  -- words that are no command line leave the source as it was
  pub untouched : status ≡ 2 → after.source ≡ before.source
  -- where the text was written nothing is noted
  pub quiet : status ≡ 0 → after.notes ≡ before.notes
  -- what the command doesn't use is as it was
  pub unnamed : LeavesUnnamed views (uses_of asked) (used before) (used after)
  -- as many guests are out as at first
  pub visiting : (views.fleet after.fleet).visiting ≡ (views.fleet before.fleet).visiting
  -- what the command promises of the rest
  pub command : Keeps views asked before status after

-- ---- from the arguments on

-- The program ended before any word was read: all but the notes is as it was.
pub record EndsUnread {S K D F P G : Type 0} (views : Views S K D F P G) (ending : CommandEnd) (before : Outside S K D F) (status : ℕ) (after : Outside S K D F) : Type 0 where
  pub ended : IsEnded ending (streams views before) (streams views after) status
  pub untouched : used after ≡ used before

-- The promise by the arguments, seen as this list, with these policies: the program's own name is passed over.
pub record StartPromise {A S K D F P G : Type 0} (views : Views S K D F P G) (policies : List (List ℕ × (OpView → ℕ))) (arguments : Result A Unread) (list : A → List (String Global))
    (before : Outside S K D F) (status : ℕ) (after : Outside S K D F) : Type 0 where
  pub read : IfOk arguments (λ all. Promise views (asked_by policies (drop 1 (list all))) before status after)
  pub unread : IfErr arguments (λ why. EndsUnread views (ending_of_unread why) before status after)

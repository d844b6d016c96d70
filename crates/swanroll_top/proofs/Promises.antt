-- How the promise of the call follows from what a command brought about and from what was noted.
use Rattle.std.proofs.Common.{◌≡◌, ℕ, Bool, List, drop, String, Option, Some, None, Result, Ok, Err, refl, sym, ap, ◌∙◌, subst, arith}
use Rattle.std.specs.declared.alloc.Global.{Global}
use Rattle.wan_edge.specs.Fleets.{FleetTrace, PortsStay}
use Rattle.rollout_rules.specs.declared.op.OpView.{OpView}
use Rattle.agent_service.specs.Services.{Guests}
use Rattle.switch_ports.specs.Berths.{FleetPorts, ports_of}
use Rattle.rollback_service.specs.declared.origin.BackFrom.{BackFrom}
use Rattle.controller_run.specs.declared.running.Limits.{Limits}
use Rattle.sim_run.specs.declared.shape.Shape.{Shape}
use Rattle.swanroll_top.specs.AgentPromise.{BringsService, ServesAsOne}
use Rattle.swanroll_top.specs.Agents.{service_answer}
use Rattle.swanroll_top.specs.DrainPromise.{BringsDrain, DrainPromise}
use Rattle.swanroll_top.specs.Drains.{DrainsAs}
use Rattle.text_commands.specs.CommandEnds.{ending_of_unread, status_of, tells_place}
use Rattle.swanroll_top.specs.HeldPromise.{BringsHeld, HeldPromise}
use Rattle.text_commands.specs.Program.{NotesLine, Streams}
use Rattle.swanroll_top.specs.Promise.{Brings, EndsUnread, Keeps, Promise, Ran, StartPromise}
use Rattle.swanroll_top.specs.ReportPromise.{BringsReport, ReportPromise}
use Rattle.swanroll_top.specs.Reports.{RunsReport}
use Rattle.swanroll_top.specs.Rollouts.{RollsAs, RunsRollout, fleet_of}
use Rattle.swanroll_top.specs.RollbackPromise.{BringsRollback, RollbackPromise}
use Rattle.swanroll_top.specs.Rollbacks.{RevertsAs}
use Rattle.swanroll_top.specs.RunPromise.{BringsRollout, RunPromise}
use Rattle.text_commands.specs.Runs.{IsInput, IsTold}
use Rattle.swanroll_top.specs.TrialPromise.{TrialPromise}
use Rattle.swanroll_top.specs.Tries.{RunsTrial, tried}
use Rattle.swanroll_top.specs.Uses.{uses_of}
use Rattle.swanroll_top.specs.Views.{Objects, Outside, Views, outside, source_at, streams, used, written_at}
use Rattle.swanroll_top.specs.Words.{Asked, a_drain, a_report, a_rollback, a_run, a_text, a_trial, an_agent, asked_by, what_is_held}
use Rattle.text_commands.specs.declared.arguments.Unread.{Unread}
use Rattle.text_commands.specs.declared.command_end.CommandEnd.{CommandEnd}
use Rattle.text_commands.specs.declared.command_end.CommandEnd.TheVariants.{Usage, DiskFault}
use Rattle.text_commands.proofs.KeptTexts.{text-keeps, unread-known}
use Rattle.swanroll_top.proofs.Agents.{serves-as}
use Rattle.swanroll_top.proofs.DrainEnds.{drains-behind}
use Rattle.swanroll_top.proofs.HeldAsking.{asks-writes}
use Rattle.swanroll_top.proofs.Leaving.{told-leaves, told-status}
use Rattle.text_commands.proofs.Programs.{command-run, ended, follows-ends, follows-unwritten, known-told, not-usage, text-unwritten, told-brings, usage-run}
use Rattle.swanroll_top.proofs.Programs.{report-unwritten, reports-of, rollout-unwritten, rollouts-of}
use Rattle.swanroll_top.proofs.NextStarting.{rolls-next}
use Rattle.swanroll_top.proofs.NextReverting.{reverts-next}
use Rattle.swanroll_top.proofs.Reaching.{rolls-ends, rolls-safe, rolls-target}
use Rattle.swanroll_top.proofs.Levelling.{reverts-back, reverts-ends, reverts-safe}
use Rattle.swanroll_top.proofs.Reverting.{reverts-behind}
use Rattle.swanroll_top.proofs.Rolling.{rolls-behind}
use Rattle.swanroll_top.proofs.Settling.{drains-ends, drains-next, drains-safe, drains-still}
use Rattle.text_commands.proofs.Statuses.{is-disk-fault, is-done}

-- what is told alike is the same

abbrev ports_with : {P : Type 0} → Option (ℕ → Option P) → (ℕ → Option P) → (ℕ → Bool) → (ℕ → Option (List ℕ)) → FleetPorts P
ports_with waiting kept lent named = record { waiting = waiting; kept = kept; lent = lent; named = named }

pub same-ports : {P G : Type 0} (before now : FleetTrace P G) → PortsStay before now → ports_of now ≡ ports_of before
same-ports before now stay =
    ap (λ x. ports_with x now.kept now.lent now.named) stay.0 ∙ (ap (λ x. ports_with before.waiting x now.lent now.named) stay.1
    ∙ (ap (λ x. ports_with before.waiting before.kept x now.named) stay.2 ∙ ap (λ x. ports_with before.waiting before.kept before.lent x) stay.3))

abbrev guests_with : {G : Type 0} → Option (List G) → List G → Guests G
guests_with coming served = record { coming = coming; served = served }

pub same-guests : {G : Type 0} (before now : Guests G) → now.coming ≡ before.coming → now.served ≡ before.served → now ≡ before
same-guests before now c s = ap (λ x. guests_with x now.served) c ∙ ap (λ x. guests_with before.coming x) s

-- ---- by what is told of an ending

-- `trial`
trial-keeps : (policy : OpView → ℕ) (shape : Shape) (before after : Streams) (e : CommandEnd) (status : ℕ) → RunsTrial policy shape before.source after.source e before.sink.written after.sink.written
    → IsTold e status before.notes.written after.notes.written before.notes.faults after.notes.faults → TrialPromise policy shape before after status
trial-keeps policy shape before after e status runs told =
    let told_runs = told-brings (λ x. RunsTrial policy shape before.source after.source x before.sink.written after.sink.written) before.sink.written after.sink.written e told.told told.is runs
    (follows-unwritten (tried policy shape) e before.sink.written after.sink.written runs.follows) (λ same. record { unread = runs.unread; shape = runs.shape; follows = same }) in
    record {
      does = λ memory. record {
        ending = told.told;
        is_status = told.is_status;
        follows = record {
          unread = runs.unread;
          shape = runs.shape;
          answer = follows-ends (tried policy shape) told.told before.sink.written after.sink.written told_runs.follows (λ h. memory (told.is_status ∙ h));
        };
        line = told.line;
      };
    }

module _ {S K D F P G : Type 0} (views : Views S K D F P G) where
  -- `report`
  report-keeps : (m : ℕ) (before after : Outside S K D F) (e : CommandEnd) (status : ℕ) → BringsReport views m (used before) e (used after)
      → IsTold e status (views.sink before.notes).written (views.sink after.notes).written (views.sink before.notes).faults (views.sink after.notes).faults → ReportPromise views m before status after
  report-keeps m before after e status brings told =
      let source = views.source before.source in
      let source_now = views.source after.source in
      let stored = (views.disk brings.opened).bytes in
      let out = (views.sink before.sink).written in
      let out_now = (views.sink after.sink).written in
      let told_runs = told-brings (λ x. RunsReport m source source_now stored x out out_now) out out_now e told.told told.is brings.runs (report-unwritten m source source_now stored out out_now e brings.runs) (λ same. same) in
      record {
        opened = brings.opened;
        opens = brings.opens;
        does = λ read device memory. record {
          ending = told.told;
          is_status = told.is_status;
          follows = reports-of m source source_now stored out out_now told.told told_runs (λ h. read (told.is_status ∙ h)) (λ h. device (told.is_status ∙ h)) (λ h. memory (told.is_status ∙ h));
          line = told.line;
        };
        leaves = told-leaves views.disk
            brings.opened after.disk m source source_now e status _ _ _ _ told brings.leaves;
        untouched = λ three. brings.untouched (told-status e status _ _ _ _ told 3 (λ n. omega (arith, n)) three);
        failed = λ eight.
            let failing : RunsReport m source source_now stored DiskFault out out_now = subst (λ x. RunsReport m source source_now stored x out out_now) (is-disk-fault told.told (sym told.is_status ∙ eight)) told_runs in
            failing.0;
      }

  -- `run`
  run-keeps : (limits : Limits) (policy : OpView → ℕ) (before after : Outside S K D F) (e : CommandEnd) (status : ℕ) → BringsRollout views limits policy (used before) e (used after)
      → IsTold e status (views.sink before.notes).written (views.sink after.notes).written (views.sink before.notes).faults (views.sink after.notes).faults → RunPromise views limits policy before status after
  run-keeps limits policy before after e status brings told =
      let source = views.source before.source in
      let source_now = views.source after.source in
      let out = (views.sink before.sink).written in
      let out_now = (views.sink after.sink).written in
      let fleet = fleet_of (views.fleet before.fleet) in
      let fleet_now = fleet_of (views.fleet after.fleet) in
      let told_runs = told-brings (λ x. RunsRollout source source_now x out out_now) out out_now e told.told told.is brings.runs (rollout-unwritten source source_now out out_now e brings.runs) (λ same. same) in
      let rolls : RollsAs views.disk views.port
      (IsInput source source_now) limits policy before.disk after.disk fleet fleet_now status out out_now = record { ending = e; told = told.told; told_as = told.is; is_status = told.is_status; rolls = brings.rolls } in
      record {
        does = λ read memory. record {
          ending = told.told;
          is_status = told.is_status;
          follows = rollouts-of source source_now out out_now told.told told_runs (λ h. read (told.is_status ∙ h)) (λ h. memory (told.is_status ∙ h));
          line = told.line;
        };
        one = record { ending = e; brings = brings; told = told.told; told_as = told.is; is_status = told.is_status; line = told.line };
        serves = brings.guests;
        rolls = rolls;
        failed = λ eight.
            rolls-behind views.disk views.port
            source source_now limits policy before.disk after.disk fleet fleet_now e out out_now (is-disk-fault e (told-status e status _ _ _ _ told 8 (λ n. omega (arith, n)) eight)) brings.rolls;
        next = rolls-next views.disk views.port (IsInput source source_now) before.disk after.disk fleet fleet_now limits policy e out out_now brings.rolls;
        ends = rolls-ends views.disk views.port (IsInput source source_now) before.disk after.disk fleet fleet_now limits policy e out out_now brings.rolls;
        safe = λ of.
            rolls-safe views.disk views.port
            (IsInput source source_now) before.disk after.disk fleet fleet_now out out_now limits policy status rolls of;
        target = λ zero.
            rolls-target views.disk views.port
            (IsInput source source_now) before.disk after.disk fleet fleet_now out out_now limits policy status rolls zero;
      }

  -- `agent`, whose line takes no memory
  agent-one : (guests : ℕ) (before after : Outside S K D F) (e : CommandEnd) (status : ℕ) → BringsService views guests (used before) e (used after)
      → IsTold e status (views.sink before.notes).written (views.sink after.notes).written (views.sink before.notes).faults (views.sink after.notes).faults → ServesAsOne views guests before status after
  agent-one guests before after e status brings told =
      let same : told.told ≡ e = known-told e told.told brings.known told.is in
      record {
        ending = e;
        brings = brings;
        is_status = told.is_status ∙ ap status_of same;
        line = subst (λ (x : CommandEnd). NotesLine x (streams views before) (streams views after)) same told.line;
      }

  -- `drain`
  drain-keeps : (limits : Limits) (before after : Outside S K D F) (e : CommandEnd) (status : ℕ) → BringsDrain views limits (used before) e (used after)
      → IsTold e status (views.sink before.notes).written (views.sink after.notes).written (views.sink before.notes).faults (views.sink after.notes).faults → DrainPromise views limits before status after
  drain-keeps limits before after e status brings told =
      let source = views.source before.source in
      let source_now = views.source after.source in
      let out = (views.sink before.sink).written in
      let out_now = (views.sink after.sink).written in
      let fleet = fleet_of (views.fleet before.fleet) in
      let fleet_now = fleet_of (views.fleet after.fleet) in
      let told_runs = told-brings (λ x. RunsRollout source source_now x out out_now) out out_now e told.told told.is brings.runs (rollout-unwritten source source_now out out_now e brings.runs) (λ same. same) in
      let rolls : DrainsAs views.disk views.port
      (IsInput source source_now) limits before.disk after.disk fleet fleet_now status out out_now = record { ending = e; told = told.told; told_as = told.is; is_status = told.is_status; rolls = brings.rolls } in
      record {
        does = λ read memory. record {
          ending = told.told;
          is_status = told.is_status;
          follows = rollouts-of source source_now out out_now told.told told_runs (λ h. read (told.is_status ∙ h)) (λ h. memory (told.is_status ∙ h));
          line = told.line;
        };
        one = record { ending = e; brings = brings; told = told.told; told_as = told.is; is_status = told.is_status; line = told.line };
        serves = brings.guests;
        rolls = rolls;
        failed = λ eight.
            drains-behind views.disk views.port
            limits before.disk after.disk fleet fleet_now out out_now source source_now e (is-disk-fault e (told-status e status _ _ _ _ told 8 (λ n. omega (arith, n)) eight)) brings.rolls;
        next = drains-next views.disk views.port (IsInput source source_now) limits before.disk after.disk fleet fleet_now e out out_now brings.rolls;
        ends = drains-ends views.disk views.port (IsInput source source_now) limits before.disk after.disk fleet fleet_now e out out_now brings.rolls;
        safe = λ of.
            drains-safe views.disk views.port
            (IsInput source source_now) limits before.disk after.disk fleet fleet_now out out_now status rolls of;
        still = λ zero.
            drains-still views.disk views.port
            (IsInput source source_now) limits before.disk after.disk fleet fleet_now out out_now status rolls zero;
      }

  -- `rollback`
  rollback-keeps : (origin : BackFrom) (limits : Limits) (before after : Outside S K D F) (e : CommandEnd) (status : ℕ) → BringsRollback views origin limits (used before) e (used after)
      → IsTold e status (views.sink before.notes).written (views.sink after.notes).written (views.sink before.notes).faults (views.sink after.notes).faults → RollbackPromise views origin limits before status after
  rollback-keeps origin limits before after e status brings told =
      let source = views.source before.source in
      let source_now = views.source after.source in
      let out = (views.sink before.sink).written in
      let out_now = (views.sink after.sink).written in
      let fleet = fleet_of (views.fleet before.fleet) in
      let fleet_now = fleet_of (views.fleet after.fleet) in
      let told_runs = told-brings (λ x. RunsRollout source source_now x out out_now) out out_now e told.told told.is brings.runs (rollout-unwritten source source_now out out_now e brings.runs) (λ same. same) in
      let rolls : RevertsAs views.disk views.port
      (IsInput source source_now) origin limits before.disk after.disk fleet fleet_now status out out_now = record { ending = e; told = told.told; told_as = told.is; is_status = told.is_status; rolls = brings.rolls } in
      record {
        does = λ read memory. record {
          ending = told.told;
          is_status = told.is_status;
          follows = rollouts-of source source_now out out_now told.told told_runs (λ h. read (told.is_status ∙ h)) (λ h. memory (told.is_status ∙ h));
          line = told.line;
        };
        one = record { ending = e; brings = brings; told = told.told; told_as = told.is; is_status = told.is_status; line = told.line };
        serves = brings.guests;
        rolls = rolls;
        failed = λ eight.
            reverts-behind views.disk views.port
            origin limits before.disk after.disk fleet fleet_now out out_now source source_now e (is-disk-fault e (told-status e status _ _ _ _ told 8 (λ n. omega (arith, n)) eight)) brings.rolls;
        next = reverts-next views.disk views.port (IsInput source source_now) origin limits before.disk after.disk fleet fleet_now e out out_now brings.rolls;
        ends = reverts-ends views.disk views.port (IsInput source source_now) origin limits before.disk after.disk fleet fleet_now e out out_now brings.rolls;
        safe = λ of.
            reverts-safe views.disk views.port
            (IsInput source source_now) origin limits before.disk after.disk fleet fleet_now out out_now status rolls of;
        back = λ zero.
            reverts-back views.disk views.port
            (IsInput source source_now) origin limits before.disk after.disk fleet fleet_now out out_now status rolls zero;
      }

  -- `held`
  held-keeps : (rounds : ℕ) (before after : Outside S K D F) (e : CommandEnd) (status : ℕ) → BringsHeld views rounds (used before) e (used after)
      → IsTold e status (views.sink before.notes).written (views.sink after.notes).written (views.sink before.notes).faults (views.sink after.notes).faults → HeldPromise views rounds before status after
  held-keeps rounds before after e status brings told =
      let source = views.source before.source in
      let source_now = views.source after.source in
      let out = (views.sink before.sink).written in
      let out_now = (views.sink after.sink).written in
      let fleet = fleet_of (views.fleet before.fleet) in
      let fleet_now = fleet_of (views.fleet after.fleet) in
      let told_runs = told-brings (λ x. RunsRollout source source_now x out out_now) out out_now e told.told told.is brings.runs (rollout-unwritten source source_now out out_now e brings.runs) (λ same. same) in
      record {
        does = λ read memory. record {
          ending = told.told;
          is_status = told.is_status;
          follows = rollouts-of source source_now out out_now told.told told_runs (λ h. read (told.is_status ∙ h)) (λ h. memory (told.is_status ∙ h));
          line = told.line;
        };
        one = record { ending = e; brings = brings; told = told.told; told_as = told.is; is_status = told.is_status; line = told.line };
        serves = brings.guests;
        writes = λ zero.
            asks-writes views.port
            rounds fleet fleet_now out out_now (IsInput source source_now) e (is-done e (told-status e status _ _ _ _ told 0 (λ n. omega (arith, n)) zero)) brings.asks;
      }

  -- each command
  command-keeps : (c : Asked) (before after : Outside S K D F) (e : CommandEnd) (status : ℕ) → Brings views c (used before) e (used after)
      → IsTold e status (views.sink before.notes).written (views.sink after.notes).written (views.sink before.notes).faults (views.sink after.notes).faults → Keeps views (Some c) before status after
  command-keeps (a_text what) before after e status brings told = text-keeps what (streams views before) (streams views after) e status brings told
  command-keeps (a_report m) before after e status brings told = report-keeps m before after e status brings told
  command-keeps (an_agent guests) before after e status brings told = record { serves = serves-as views.guest guests _ _ e status _ _ _ _ _ _ brings told; one = agent-one guests before after e status brings told }
  command-keeps (a_trial shape policy) before after e status brings told = trial-keeps policy shape (streams views before) (streams views after) e status brings told
  command-keeps (a_run limits policy) before after e status brings told = run-keeps limits policy before after e status brings told
  command-keeps (a_drain limits) before after e status brings told = drain-keeps limits before after e status brings told
  command-keeps (a_rollback limits origin) before after e status brings told = rollback-keeps origin limits before after e status brings told
  command-keeps (what_is_held rounds) before after e status brings told = held-keeps rounds before after e status brings told

  -- nothing was written but a text, or a part of it
  command-silent : (c : Asked) (before after : Objects S K D F) (e : CommandEnd) → Brings views c before e after → (status_of e ≡ 0 → ⊥) → (status_of e ≡ 7 → ⊥) → written_at views after ≡ written_at views before
  command-silent (a_text what) before after e brings done cut = text-unwritten what (source_at views before) (source_at views after) (written_at views before) (written_at views after) e brings done cut
  command-silent (a_report m) before after e brings done cut = report-unwritten m (source_at views before) (source_at views after) (views.disk brings.opened).bytes (written_at views before) (written_at views after) e brings.runs done cut
  command-silent (an_agent guests) before after e brings done cut = follows-unwritten (service_answer brings.came) e (written_at views before) (written_at views after) brings.follows done cut
  command-silent (a_trial shape policy) before after e brings done cut = follows-unwritten (tried policy shape) e (written_at views before) (written_at views after) brings.follows done cut
  command-silent (a_run limits policy) before after e brings done cut = rollout-unwritten (source_at views before) (source_at views after) (written_at views before) (written_at views after) e brings.runs done cut
  command-silent (a_drain limits) before after e brings done cut = rollout-unwritten (source_at views before) (source_at views after) (written_at views before) (written_at views after) e brings.runs done cut
  command-silent (a_rollback limits origin) before after e brings done cut = rollout-unwritten (source_at views before) (source_at views after) (written_at views before) (written_at views after) e brings.runs done cut
  command-silent (what_is_held rounds) before after e brings done cut = rollout-unwritten (source_at views before) (source_at views after) (written_at views before) (written_at views after) e brings.runs done cut

  -- a command was done
  pub promised : (asked : Option Asked) (c : Asked) (before after : Outside S K D F) (e : CommandEnd) (status : ℕ) → asked ≡ Some c → Ran views c (used before) e (used after)
      → IsTold e status (views.sink before.notes).written (views.sink after.notes).written (views.sink before.notes).faults (views.sink after.notes).faults
      → (status ≡ 0 → after.notes ≡ before.notes) → Promise views asked before status after
  promised asked c before after e status is ran told quiet =
      subst (λ a. Promise views a before status after) (sym is) (record {
        run = command-run (uses_of (Some c)) (Some c) c (streams views before) (streams views after) e status refl (command-silent c (used before) (used after) e ran.brings)
            ran.read_fault ran.write_fault ran.disk_fault ran.guest_fault ran.unfinished ran.ran told;
        untouched = λ h. absurd (not-usage e status _ _ _ _ ran.ran told h);
        quiet = quiet;
        unnamed = ran.unnamed;
        visiting = ran.visiting;
        command = command-keeps c before after e status ran.brings told;
      })

  -- what was asked for is this command
  pub ran-as : (asked c : Asked) (before after : Objects S K D F) (e : CommandEnd) → asked ≡ c → Ran views c before e after → Ran views asked before e after
  ran-as asked c before after e is ran = subst (λ a. Ran views a before e after) (sym is) ran

  -- words that are no command line leave all but the notes as it was
  pub usage-promised : (asked : Option Asked) (source : S) (sink : K) (notes notes_now : K) (disk : D) (fleet : F) (status : ℕ) → asked ≡ None
      → IsTold Usage status (views.sink notes).written (views.sink notes_now).written (views.sink notes).faults (views.sink notes_now).faults
      → (status ≡ 0 → notes_now ≡ notes) → Promise views asked (outside source sink notes disk fleet) status (outside source sink notes_now disk fleet)
  usage-promised asked source sink notes notes_now disk fleet status is told quiet =
      subst (λ a. Promise views a (outside source sink notes disk fleet) status (outside source sink notes_now disk fleet)) (sym is) (record {
        run = usage-run (uses_of None) None (streams views (outside source sink notes disk fleet)) (streams views (outside source sink notes_now disk fleet)) status refl refl refl told;
        untouched = λ h. refl;
        quiet = quiet;
        unnamed = record { unread = refl; disk = refl; fleet = refl; ports = refl };
        visiting = refl;
        command = tt;
      })

  -- ---- from the arguments on

  pub read-started : {A : Type 0} (policies : List (List ℕ × (OpView → ℕ))) (arguments : Result A Unread) (list : A → List (String Global)) (all : A) (words : List (String Global)) (before after : Outside S K D F) (status : ℕ)
      → arguments ≡ Ok all → words ≡ drop 1 (list all) → Promise views (asked_by policies words) before status after → StartPromise views policies arguments list before status after
  read-started policies arguments list all words before after status is words_are promise =
      subst (λ r. StartPromise views policies r list before status after) (sym is) (record { read = subst (λ w. Promise views (asked_by policies w) before status after) words_are promise; unread = tt })

  pub unread-started : {A : Type 0} (policies : List (List ℕ × (OpView → ℕ))) (arguments : Result A Unread) (list : A → List (String Global)) (why : Unread) (e : CommandEnd)
      (source : S) (sink : K) (notes notes_now : K) (disk : D) (fleet : F) (status : ℕ) → arguments ≡ Err why → e ≡ ending_of_unread why
      → IsTold e status (views.sink notes).written (views.sink notes_now).written (views.sink notes).faults (views.sink notes_now).faults
      → StartPromise views policies arguments list (outside source sink notes disk fleet) status (outside source sink notes_now disk fleet)
  unread-started policies arguments list why e source sink notes notes_now disk fleet status is end told =
      subst (λ r. StartPromise views policies r list (outside source sink notes disk fleet) status (outside source sink notes_now disk fleet)) (sym is) (record {
        read = tt;
        unread = subst (λ x. EndsUnread views x (outside source sink notes disk fleet) status (outside source sink notes_now disk fleet)) end (record {
          ended = ended (streams views (outside source sink notes disk fleet)) (streams views (outside source sink notes_now disk fleet)) e status (ap tells_place end ∙ unread-known why) refl refl told;
          untouched = refl;
        });
      })

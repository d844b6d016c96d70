-- A drain that finds all that it needs ends well.
use Rattle.std.proofs.Common.{◌≡◌, ◌≢◌, ℕ, ◌<◌, ◌^◌, true, List, Option, Some, Result, Ok, Err, IfOk, IfErr, refl, sym, ap, ◌∙◌, subst, inl, inr}
use Rattle.std.specs.List.{AllByRecursion}
use Rattle.std.proofs.lemmas.List.Elements.{All-contains}
use Rattle.lists.proofs.Options.{of_some}
use Rattle.lists.proofs.Conditions.{some_same_is}
use Rattle.rollout_rules.specs.Wan.{Rollout}
use Rattle.rollout_rules.specs.History.{History}
use Rattle.rollout_rules.specs.Network.{IsNetwork}
use Rattle.rollout_rules.specs.Valid.{is_valid_plan}
use Rattle.rollout_rules.specs.declared.op.OpView.{OpView}
use Rattle.wan_edge.proofs.Faults.{rose_since}
use Rattle.disk_model.specs.Traces.{DiskTrace}
use Rattle.disk_mirror.specs.Openings.{Opens}
use Rattle.wan_edge.specs.Ports.{PortTrace}
use Rattle.wan_edge.specs.Streams.{Rose, SourceTrace}
use Rattle.intent_journal.specs.Recovered.{IsCause}
use Rattle.intent_journal.specs.Verdicts.{verdict}
use Rattle.intent_journal.specs.Openings.{IsLeft, found_by}
use Rattle.intent_journal.specs.declared.fault.JournalFault.{JournalFault}
use Rattle.shared_book.specs.declared.call_reply.Halt.{Halt}
use Rattle.shared_book.specs.Homes.{homes_of}
use Rattle.shared_book.specs.Opened.{opening_of}
use Rattle.port_session.specs.Sessions.{SessionView}
use Rattle.switch_ports.specs.Hands.{first_sessions}
use Rattle.switch_ports.specs.Homes.{working_homes}
use Rattle.switch_ports.specs.Opening.{AreGiven}
use Rattle.rollout_report.specs.Journals.{digest_for}
use Rattle.controller_run.specs.Ran.{EndsRun, Ran}
use Rattle.controller_run.specs.declared.end.RunEnd.{RunEnd}
use Rattle.controller_run.specs.declared.end.RunEnd.TheVariants as run
use Rattle.controller_run.specs.declared.running.Limits.{Limits}
use Rattle.controller_run.specs.RolloutEnds.{HasRolled}
use Rattle.controller_run.specs.declared.outcome.RunOutcome.{RunOutcome}
use Rattle.completion_laws.specs.Faults.{IsExcused, IsWithoutFault}
use Rattle.completion_laws.specs.Finishing.{EndsOrIsExcused, IsProvided, IsWant}
use Rattle.completion_laws.proofs.Excused.{ran-ends}
use Rattle.completion_laws.proofs.Finished.{only-want}
use Rattle.completion_laws.proofs.NoFaults.{no-fault}
use Rattle.swanroll_top.specs.Drains.{Drains, DrainsAs, OpensAndDrains, drained_at, drained_or_ending}
use Rattle.text_commands.specs.CommandEnds.{status_of}
use Rattle.swanroll_top.specs.Ready.{CountsNoFault, GoesOnFrom, IsServedFor, WaitsReady}
use Rattle.text_commands.specs.Answers.{rollout_to}
use Rattle.swanroll_top.specs.Rollouts.{FleetSeen, by_answer, ending_of_stop}
use Rattle.text_commands.specs.Runs.{EndsWith, IsInput}
use Rattle.text_commands.specs.declared.command_end.CommandEnd.{CommandEnd}
use Rattle.swanroll_top.proofs.Certain.{opened-ready, opened-waited}
use Rattle.swanroll_top.proofs.CertainBack.{excused-never, wanting-never}
use Rattle.text_commands.proofs.Inputs.{told-within}
use Rattle.text_commands.proofs.Programs.{follows-ends, told-same}
use Rattle.swanroll_top.proofs.Reporting.{rolled-within}
use Rattle.swanroll_top.proofs.Unbegun.{goes-opened, unbegun-never, unopened-never}

-- ---- a rollout that was drained, from a disk that tells its image

module _ {D P : Type 0} (trace : D → DiskTrace) (tell : P → PortTrace)
    (limits : Limits) (policy : OpView → ℕ) (source source_now : SourceTrace) (disk disk_now : D) (before now : FleetSeen P) (out out_now : Option (List ℕ)) (r : Rollout) (found : History)
    (goes : GoesOnFrom limits.migration source source_now (trace disk).bytes r found) (served : IsServedFor tell limits before.ports.waiting r found) where
  module _ (network : IsNetwork r.problem) (valid : is_valid_plan r.problem r.plan ≡ true) (small : limits.migration < 2 ^ 32) (a : RunOutcome)
      (has : HasRolled trace tell r (digest_for r limits.migration) policy limits.rounds disk before.ports now.ports disk_now a) where
    abbrev RanTo : RunEnd → Type 0
    RanTo end = Ran trace tell (opening_of has.book policy) (trace has.book.disk).moment (trace has.book.disk).faults limits.migration limits.rounds
        (working_homes has.book.rollout.problem has.book.rollout.plan) before.ports end has.run.closed now.ports

    -- the book has what was found
    found-is : found ≡ has.book.history
    found-is =
        some_same_is found has.book.history
        (sym goes.begins ∙ of_some (λ image. found_by r (verdict r (digest_for r limits.migration) image) ≡ Some has.book.history) (trace disk).bytes goes.image goes.told has.opened.found)

    served-book : IsServedFor tell limits before.ports.waiting has.book.rollout has.book.history
    served-book =
        subst (λ (x : Rollout). IsServedFor tell limits before.ports.waiting x has.book.history) (sym has.opened.rollout)
        (subst (λ (h : History). IsServedFor tell limits before.ports.waiting r h) found-is served)

    provided : (end : RunEnd) (ran : RanTo end) → IsProvided tell (opening_of has.book policy) limits.migration (homes_of has.book.rollout.problem) limits.rounds (first_sessions ran.berths)
    provided end ran = record {
      network = subst (λ (x : Rollout). IsNetwork x.problem) (sym has.opened.rollout) network;
      plan = subst (λ (x : Rollout). is_valid_plan x.problem x.plan ≡ true) (sym has.opened.rollout) valid;
      small = small;
      ready = opened-ready tell has.book.rollout limits.migration has.book.history served-book.ports ran.berths
          (subst (λ (w : Option (ℕ → Option P)). AreGiven tell w ran.berths) served-book.told ran.given)
          (subst (λ (switches : List ℕ). AllByRecursion (WaitsReady tell has.book.rollout limits.migration has.book.history served-book.ports) switches) (sym ran.switches) served-book.each);
      enough = served-book.enough;
    }

    ends-so : (end : RunEnd) → RanTo end → EndsOrIsExcused end
    ends-so end ran =
        ran-ends trace tell (opening_of has.book policy) (trace has.book.disk).moment (trace has.book.disk).faults limits.migration limits.rounds
        (working_homes has.book.rollout.problem has.book.rollout.plan) before.ports end has.run.closed now.ports ran (provided end ran)

    abbrev Ended : RunEnd → Type 0
    Ended end = EndsRun tell (working_homes has.book.rollout.problem has.book.rollout.plan) has.book has.run.closed before.ports now.ports (RanTo end) end

    ended-is : Ended a.end
    unfolding digest_for
    ended-is = has.run.ran

    module _ (halt : Halt) (is : a.end ≡ run.Stopped halt) where
      ran-stopped : RanTo (run.Stopped halt)
      ran-stopped = subst Ended is ended-is

      -- what stopped it is excused
      stop-excused : IsExcused halt.cause
      stop-excused = ends-so (run.Stopped halt) ran-stopped

      -- where no count has risen, only lack of memory stops it
      stop-wants : CountsNoFault tell (trace disk).faults (trace disk_now).faults before now → IsWant halt.cause
      stop-wants counts =
          let ran = ran-stopped in
          let o = opening_of has.book policy in
          let without : IsWithoutFault tell (Rose (trace has.book.disk).faults (trace has.run.closed.disk).faults) (first_sessions ran.berths) now.ports.kept = record {
            disk = λ rose. counts.disk (rose_since (trace disk).faults (trace has.book.disk).faults (trace disk_now).faults has.opened.on.count (subst (λ (d : D). Rose (trace has.book.disk).faults (trace d).faults) (sym has.run.back) rose));
            ports = λ t at back kept. of_some (λ (waiting : ℕ → Option P). (switch : ℕ) (first back : P) → waiting switch ≡ Some first → now.ports.kept switch ≡ Some back → Rose (tell first).faults (tell back).faults → ⊥)
                before.ports.waiting served.ports served.told counts.ports t.switch t.port back
                (All-contains (λ (u : SessionView P). served.ports u.switch ≡ Some u.port) (first_sessions ran.berths) t
                (opened-waited tell r limits.migration found served.ports ran.berths (subst (λ (w : Option (ℕ → Option P)). AreGiven tell w ran.berths) served.told ran.given)) at)
                kept;
          } in
          only-want halt.cause stop-excused
          (no-fault tell (Rose (trace has.book.disk).faults (trace has.run.closed.disk).faults) (first_sessions ran.berths) now.ports.kept without o limits.migration (homes_of o.rollout.problem) limits.rounds ran.log halt.cause ran.reason)

  abbrev HasRolledTo : RunOutcome → Type 0
  HasRolledTo a = HasRolled trace tell r (digest_for r limits.migration) policy limits.rounds disk before.ports now.ports disk_now a

  -- ---- how it ends

  module _ (e : CommandEnd) (sink : status_of e ≡ 7 → ⊥) (memory : status_of e ≡ 12 → ⊥) (device : Rose (trace disk).faults (trace disk_now).faults → status_of e ≡ 8 → ⊥) (fleet : Rose before.faults now.faults → status_of e ≡ 9 → ⊥)
      (network : IsNetwork r.problem) (valid : is_valid_plan r.problem r.plan ≡ true) (small : limits.migration < 2 ^ 32)
      (stop : (a : RunOutcome) → HasRolledTo a → (halt : Halt) → a.end ≡ run.Stopped halt → e ≡ ending_of_stop a.plan halt.cause → ⊥) where
    ran-well : (a : RunOutcome) → HasRolledTo a → ((switch : ℕ) → a.end ≡ run.NoPort switch → Rose before.faults now.faults) → (end : RunEnd) → a.end ≡ end → EndsWith (drained_at end a) e out out_now → status_of e ≡ 0
    ran-well a has missing run.Finished is (inl done) = ap status_of done.0
    ran-well a has missing run.Finished is (inr cut) = absurd (sink (ap status_of cut.0))
    ran-well a has missing run.Held is (inl done) = ap status_of done.0
    ran-well a has missing run.Held is (inr cut) = absurd (sink (ap status_of cut.0))
    ran-well a has missing (run.Stopped halt) is ends = absurd (stop a has halt is ends.0)
    ran-well a has missing (run.NoPort switch) is ends = absurd (fleet (missing switch is) (ap status_of ends.0))
    ran-well a has missing run.Memory is ends = absurd (memory (ap status_of ends.0))

    answered-well : (a : Result RunOutcome JournalFault) → IfOk a HasRolledTo → IfErr a (λ why. IsLeft trace r (digest_for r limits.migration) disk why disk_now × (now ≡ before))
        → IfOk a (λ o. (switch : ℕ) → o.end ≡ run.NoPort switch → Rose before.faults now.faults) → EndsWith (by_answer drained_or_ending a) e out out_now → status_of e ≡ 0
    answered-well (Ok o) has unopened missing ends = ran-well o has missing o.end refl ends
    answered-well (Err why) has unopened missing ends =
        let told = of_some (λ image. IsCause why (digest_for r limits.migration) (verdict r (digest_for r limits.migration) image)) (trace disk).bytes goes.image goes.told unopened.0.refusal in
        absurd (unopened-never trace limits source source_now disk r found goes why e told ends.0 (λ is. device (unopened.0.failed is)) memory)

-- ---- by the disk as it was at first

module _ {D P : Type 0} (trace : D → DiskTrace) (tell : P → PortTrace)
    (limits : Limits) (source source_now : SourceTrace) (disk disk_now : D) (before now : FleetSeen P) (out out_now : Option (List ℕ)) (r : Rollout) (found : History)
    (goes : GoesOnFrom limits.migration source source_now (trace disk).bytes r found) (served : IsServedFor tell limits before.ports.waiting r found) where
  -- what it told it tells once it is opened
  goes-on : (opened : D) → Opens (trace disk) (trace opened) → GoesOnFrom limits.migration source source_now (trace opened).bytes r found
  goes-on opened opens = goes-opened trace limits source source_now disk r found goes opened opens

  abbrev StopsNever : CommandEnd → D → Type 0
  StopsNever e opened = (policy : OpView → ℕ) → IsNetwork r.problem → is_valid_plan r.problem r.plan ≡ true → limits.migration < 2 ^ 32 → (a : RunOutcome)
      → HasRolled trace tell r (digest_for r limits.migration) policy limits.rounds opened before.ports now.ports disk_now a
      → (halt : Halt) → a.end ≡ run.Stopped halt → e ≡ ending_of_stop a.plan halt.cause → ⊥

  module _ (e : CommandEnd) (read : status_of e ≡ 6 → ⊥) (sink : status_of e ≡ 7 → ⊥) (memory : status_of e ≡ 12 → ⊥) (device : Rose (trace disk).faults (trace disk_now).faults → status_of e ≡ 8 → ⊥) (fleet : Rose before.faults now.faults → status_of e ≡ 9 → ⊥)
      (stop : (opened : D) → Opens (trace disk) (trace opened) → StopsNever e opened) where
    opened-well : OpensAndDrains trace tell r limits disk disk_now before now e out out_now → status_of e ≡ 0
    opened-well (inl fails) = absurd (device fails.failed (ap status_of fails.is))
    opened-well (inr begun) =
        let d = begun.drains in
        answered-well trace tell limits d.policy source source_now begun.opened disk_now before now out out_now r found (goes-on begun.opened begun.opens) served
        e sink memory (λ rose. device (rose_since (trace disk).faults (trace begun.opened).faults (trace disk_now).faults begun.opens.count rose)) fleet
        d.network d.valid d.small (stop begun.opened begun.opens d.policy d.network d.valid d.small)
        d.answer d.rolled d.unopened d.no_port (follows-ends (by_answer drained_or_ending d.answer) e out out_now d.follows memory)

    drains-well : Drains trace tell (IsInput source source_now) limits disk disk_now before now e out out_now → status_of e ≡ 0
    drains-well (inl none) = absurd (unbegun-never trace limits source source_now disk r found goes e none.why read memory)
    drains-well (inr drained) =
        let same_input : goes.input ≡ drained.input = told-within source source_now drained.input goes.input drained.given (rolled-within goes.input r goes.is) goes.told_input in
        let both : Ok r ≡ Ok drained.r = sym goes.is ∙ (ap rollout_to same_input ∙ drained.is) in
        let same : drained.r ≡ r = sym (cc both) in
        opened-well (subst (λ (x : Rollout). OpensAndDrains trace tell x limits disk disk_now before now e out out_now) same drained.rolls)

  -- by the status of an ending that is told by itself
  by-ending : (status : ℕ) → DrainsAs trace tell (IsInput source source_now) limits disk disk_now before now status out out_now → status ≢ 12
      → ((e : CommandEnd) → Drains trace tell (IsInput source source_now) limits disk disk_now before now e out out_now → ((n : ℕ) → status ≢ n → status_of e ≡ n → ⊥) → status_of e ≡ 0) → status ≡ 0
  by-ending status rolls memory well =
      let tells : (n : ℕ) → status ≢ n → status_of rolls.told ≡ n → ⊥ = λ n other is. other (rolls.is_status ∙ is) in
      let same : rolls.told ≡ rolls.ending = sym (told-same rolls.ending rolls.told rolls.told_as (λ m. tells 12 memory (ap status_of m))) in
      rolls.is_status ∙ (ap status_of same ∙ well rolls.ending rolls.rolls (λ n other is. tells n other (ap status_of same ∙ is)))

  pub drained-ends-well : (status : ℕ) → DrainsAs trace tell (IsInput source source_now) limits disk disk_now before now status out out_now
      → status ≢ 6 → status ≢ 7 → status ≢ 8 → status ≢ 9 → status ≢ 12 → status ≡ 0
  drained-ends-well status rolls read sink device fleet memory =
      by-ending status rolls memory
      (λ e to over. drains-well e (over 6 read) (over 7 sink) (over 12 memory) (λ rose. over 8 device) (λ rose. over 9 fleet)
      (λ opened opens policy network valid small a has halt is ends.
      excused-never e a.plan halt.cause ends
      (stop-excused trace tell limits policy source source_now opened disk_now before now out out_now r found (goes-on opened opens) served network valid small a has halt is)
      (over 8 device) (over 9 fleet) (over 12 memory)) to)

  pub faultless-ends-well : CountsNoFault tell (trace disk).faults (trace disk_now).faults before now
      → (status : ℕ) → DrainsAs trace tell (IsInput source source_now) limits disk disk_now before now status out out_now
      → status ≢ 6 → status ≢ 7 → status ≢ 12 → status ≡ 0
  faultless-ends-well counts status rolls read sink memory =
      by-ending status rolls memory
      (λ e to over. drains-well e (over 6 read) (over 7 sink) (over 12 memory) (λ rose eight. counts.disk rose) (λ rose nine. counts.fleet rose)
      (λ opened opens policy network valid small a has halt is ends.
      wanting-never e a.plan halt.cause ends
      (stop-wants trace tell limits policy source source_now opened disk_now before now out out_now r found (goes-on opened opens) served network valid small a has halt is
      (record {
        disk = λ rose. counts.disk (rose_since (trace disk).faults (trace opened).faults (trace disk_now).faults opens.count rose);
        fleet = counts.fleet;
        ports = counts.ports;
      }))
      (over 12 memory)) to)

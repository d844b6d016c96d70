-- A run that finds all that it needs ends well.
use Rattle.std.proofs.Common.{◌≡◌, ◌≢◌, ℕ, ◌<◌, ◌^◌, true, List, [], ◌∷◌, Option, Some, Result, Ok, Err, IfOk, IfErr, refl, sym, ap, ◌∙◌, subst, inl, inr}
use Rattle.std.specs.List.{All, AllByRecursion}
use Rattle.std.proofs.lemmas.List.Elements.{All-cons, All-contains, All-nil}
use Rattle.lists.proofs.Options.{of_some}
use Rattle.lists.proofs.Conditions.{some_same_is}
use Rattle.rollout_rules.specs.Wan.{Rollout}
use Rattle.rollout_rules.specs.History.{History}
use Rattle.rollout_rules.specs.Network.{IsNetwork}
use Rattle.rollout_rules.specs.Valid.{is_valid_plan}
use Rattle.rollout_rules.specs.declared.op.OpView.{OpView}
use Rattle.wan_edge.proofs.Faults.{rose_since}
use Rattle.disk_model.specs.Traces.{DiskTrace}
use Rattle.disk_mirror.specs.Openings.{Opens}
use Rattle.wan_edge.specs.Ports.{PortTrace}
use Rattle.wan_edge.specs.Streams.{Rose, SourceTrace}
use Rattle.intent_journal.specs.Recovered.{IsCause}
use Rattle.intent_journal.specs.Verdicts.{verdict}
use Rattle.intent_journal.specs.declared.fault.JournalFault.{JournalFault}
use Rattle.intent_journal.specs.declared.fault.JournalFault.TheVariants as fault
use Rattle.shared_book.specs.declared.note.Cause.{Cause}
use Rattle.shared_book.specs.declared.note.Cause.TheVariants as cause
use Rattle.shared_book.specs.declared.call_reply.Halt.{Halt}
use Rattle.shared_book.specs.Homes.{homes_of}
use Rattle.shared_book.specs.Opened.{opening_of}
use Rattle.port_session.specs.Sessions.{SessionView, first_session}
use Rattle.switch_ports.specs.Views.{view}
use Rattle.switch_ports.specs.declared.ports.Berth.{Berth}
use Rattle.switch_ports.specs.Berths.{switches_of}
use Rattle.switch_ports.specs.Hands.{first_sessions}
use Rattle.switch_ports.specs.Homes.{working_homes}
use Rattle.switch_ports.specs.Opening.{AreGiven, IsGiven}
use Rattle.rollout_report.specs.Journals.{digest_for}
use Rattle.controller_run.specs.Ran.{EndsRun, Ran}
use Rattle.controller_run.specs.declared.end.RunEnd.{RunEnd}
use Rattle.controller_run.specs.declared.end.RunEnd.TheVariants as run
use Rattle.controller_run.specs.declared.running.Limits.{Limits}
use Rattle.intent_journal.specs.Openings.{IsLeft, found_by}
use Rattle.controller_run.specs.RolloutEnds.{HasRolled}
use Rattle.controller_run.specs.declared.outcome.RunOutcome.{RunOutcome}
use Rattle.completion_laws.specs.Answering.{IsReady}
use Rattle.completion_laws.specs.Faults.{IsExcused, IsWithoutFault}
use Rattle.completion_laws.specs.Finishing.{FinishesOrIsExcused, FinishesOrWants, IsSure, IsWant}
use Rattle.completion_laws.proofs.Excused.{ran-excused}
use Rattle.completion_laws.proofs.Finished.{wants}
use Rattle.text_commands.specs.CommandEnds.{status_of}
use Rattle.swanroll_top.specs.Ready.{CountsNoFault, GoesOnFrom, IsReadyFor, WaitsReady}
use Rattle.text_commands.specs.Answers.{rollout_to}
use Rattle.swanroll_top.specs.Rollouts.{FleetSeen, OpensAndRolls, Rolls, RollsAs, by_answer, ending_of_stop, line_at, line_or_ending}
use Rattle.text_commands.specs.Runs.{EndsWith, IsInput}
use Rattle.text_commands.specs.declared.command_end.CommandEnd.{CommandEnd}
use Rattle.text_commands.proofs.Inputs.{told-within}
use Rattle.swanroll_top.proofs.Reporting.{rolled-within}
use Rattle.text_commands.proofs.Programs.{follows-ends, told-same}
use Rattle.swanroll_top.proofs.Unbegun.{goes-opened, unbegun-never, unopened-never}

-- ---- the ports that were opened

module _ {P : Type 0} (tell : P → PortTrace) (r : Rollout) (migration : ℕ) (found : History) (ports : ℕ → Option P) where
  pub opened-ready : (bs : List (Berth P)) → AllByRecursion (IsGiven tell (Some ports)) bs → AllByRecursion (WaitsReady tell r migration found ports) (switches_of bs)
      → All (λ t. IsReady r migration (homes_of r.problem) found (view tell t)) (first_sessions bs)
  opened-ready [] given each = All-nil (λ t. IsReady r migration (homes_of r.problem) found (view tell t))
  opened-ready (b ∷ bs) given each =
      let same : each.0.port ≡ b.port = some_same_is each.0.port b.port (sym each.0.waits ∙ given.0) in
      All-cons (λ t. IsReady r migration (homes_of r.problem) found (view tell t)) (first_session b.switch b.port) (first_sessions bs)
      (subst (λ (p : P). IsReady r migration (homes_of r.problem) found (view tell (first_session b.switch p))) same each.0.ready)
      (opened-ready bs given.1 each.1)

  pub opened-waited : (bs : List (Berth P)) → AllByRecursion (IsGiven tell (Some ports)) bs → All (λ (t : SessionView P). ports t.switch ≡ Some t.port) (first_sessions bs)
  opened-waited [] given = All-nil (λ (t : SessionView P). ports t.switch ≡ Some t.port)
  opened-waited (b ∷ bs) given = All-cons (λ (t : SessionView P). ports t.switch ≡ Some t.port) (first_session b.switch b.port) (first_sessions bs) given.0 (opened-waited bs given.1)

-- ---- a rollout that was run

module _ {D P : Type 0} (trace : D → DiskTrace) (tell : P → PortTrace)
    (limits : Limits) (policy : OpView → ℕ) (source source_now : SourceTrace) (disk disk_now : D) (before now : FleetSeen P) (out out_now : Option (List ℕ)) (r : Rollout) (found : History)
    (goes : GoesOnFrom limits.migration source source_now (trace disk).bytes r found) (ready : IsReadyFor tell limits policy before.ports.waiting r found) where
  module _ (network : IsNetwork r.problem) (valid : is_valid_plan r.problem r.plan ≡ true) (small : limits.migration < 2 ^ 32) (a : RunOutcome)
      (has : HasRolled trace tell r (digest_for r limits.migration) policy limits.rounds disk before.ports now.ports disk_now a) where
    abbrev Begun : RunEnd → Type 0
    Begun end = Ran trace tell (opening_of has.book policy) (trace has.book.disk).moment (trace has.book.disk).faults limits.migration limits.rounds
        (working_homes has.book.rollout.problem has.book.rollout.plan) before.ports end has.run.closed now.ports

    -- the book has what was found
    found-is : found ≡ has.book.history
    found-is =
        some_same_is found has.book.history
        (sym goes.begins ∙ of_some (λ image. found_by r (verdict r (digest_for r limits.migration) image) ≡ Some has.book.history) (trace disk).bytes goes.image goes.told has.opened.found)

    ready-book : IsReadyFor tell limits policy before.ports.waiting has.book.rollout has.book.history
    ready-book =
        subst (λ (x : Rollout). IsReadyFor tell limits policy before.ports.waiting x has.book.history) (sym has.opened.rollout)
        (subst (λ (h : History). IsReadyFor tell limits policy before.ports.waiting r h) found-is ready)

    sure : (end : RunEnd) (ran : Begun end) → IsSure tell (opening_of has.book policy) limits.migration (homes_of has.book.rollout.problem) limits.rounds (first_sessions ran.berths)
    sure end ran = record {
      network = subst (λ (x : Rollout). IsNetwork x.problem) (sym has.opened.rollout) network;
      plan = subst (λ (x : Rollout). is_valid_plan x.problem x.plan ≡ true) (sym has.opened.rollout) valid;
      small = small;
      ready = opened-ready tell has.book.rollout limits.migration has.book.history ready-book.ports ran.berths
          (subst (λ (w : Option (ℕ → Option P)). AreGiven tell w ran.berths) ready-book.told ran.given)
          (subst (λ (switches : List ℕ). AllByRecursion (WaitsReady tell has.book.rollout limits.migration has.book.history ready-book.ports) switches) (sym ran.switches) ready-book.each);
      enough = ready-book.enough;
      free = ready-book.free;
    }

    excused : (end : RunEnd) → Begun end → FinishesOrIsExcused end
    excused end ran =
        ran-excused trace tell (opening_of has.book policy) (trace has.book.disk).moment (trace has.book.disk).faults limits.migration limits.rounds
        (working_homes has.book.rollout.problem has.book.rollout.plan) before.ports end has.run.closed now.ports ran (sure end ran)

    abbrev Ended : RunEnd → Type 0
    Ended end = EndsRun tell (working_homes has.book.rollout.problem has.book.rollout.plan) has.book has.run.closed before.ports now.ports (Begun end) end

    ended-is : Ended a.end
    unfolding digest_for
    ended-is = has.run.ran

    -- nothing is held
    held-never : a.end ≡ run.Held → ⊥
    held-never is = excused run.Held (subst Ended is ended-is)

    -- what stopped it is excused
    stop-excused : (halt : Halt) → a.end ≡ run.Stopped halt → IsExcused halt.cause
    stop-excused halt is = excused (run.Stopped halt) (subst Ended is ended-is)

    -- where no count has risen, only lack of memory did
    module _ (counts : CountsNoFault tell (trace disk).faults (trace disk_now).faults before now) where
      unfailing : (end : RunEnd) (ran : Begun end) → IsWithoutFault tell (Rose (trace has.book.disk).faults (trace has.run.closed.disk).faults) (first_sessions ran.berths) now.ports.kept
      unfailing end ran = record {
        disk = λ rose. counts.disk (rose_since (trace disk).faults (trace has.book.disk).faults (trace disk_now).faults has.opened.on.count (subst (λ (d : D). Rose (trace has.book.disk).faults (trace d).faults) (sym has.run.back) rose));
        ports = λ t at back kept. of_some (λ (waiting : ℕ → Option P). (switch : ℕ) (first back : P) → waiting switch ≡ Some first → now.ports.kept switch ≡ Some back → Rose (tell first).faults (tell back).faults → ⊥)
            before.ports.waiting ready.ports ready.told counts.ports t.switch t.port back
            (All-contains (λ (u : SessionView P). ready.ports u.switch ≡ Some u.port) (first_sessions ran.berths) t
            (opened-waited tell r limits.migration found ready.ports ran.berths (subst (λ (w : Option (ℕ → Option P)). AreGiven tell w ran.berths) ready.told ran.given)) at)
            kept;
      }

      wanting : (end : RunEnd) → Begun end → FinishesOrWants end
      wanting end ran =
          wants tell (opening_of has.book policy) limits.migration limits.rounds (Rose (trace has.book.disk).faults (trace has.run.closed.disk).faults) (first_sessions ran.berths) now.ports.kept ran.log (unfailing end ran) end (excused end ran) ran.reason

      stop-wants : (halt : Halt) → a.end ≡ run.Stopped halt → IsWant halt.cause
      stop-wants halt is = wanting (run.Stopped halt) (subst Ended is ended-is)

  -- ---- how it ends

  abbrev HasRolledTo : RunOutcome → Type 0
  HasRolledTo a = HasRolled trace tell r (digest_for r limits.migration) policy limits.rounds disk before.ports now.ports disk_now a

  -- by what is known of the cause of a stop
  module _ (Stops : Cause → Type 0)
      (stops : IsNetwork r.problem → is_valid_plan r.problem r.plan ≡ true → limits.migration < 2 ^ 32 → (a : RunOutcome) → HasRolledTo a → (halt : Halt) → a.end ≡ run.Stopped halt → Stops halt.cause)
      (e : CommandEnd) (read : status_of e ≡ 6 → ⊥) (sink : status_of e ≡ 7 → ⊥) (memory : status_of e ≡ 12 → ⊥) (device : Rose (trace disk).faults (trace disk_now).faults → status_of e ≡ 8 → ⊥) (fleet : Rose before.faults now.faults → status_of e ≡ 9 → ⊥)
      (stopped : (other : Rollout) (why : Cause) → e ≡ ending_of_stop other why → Stops why → status_of e ≡ 0) where
    ran-well : IsNetwork r.problem → is_valid_plan r.problem r.plan ≡ true → limits.migration < 2 ^ 32 → (a : RunOutcome) → HasRolledTo a
        → ((switch : ℕ) → a.end ≡ run.NoPort switch → Rose before.faults now.faults) → (end : RunEnd) → a.end ≡ end → EndsWith (line_at end a) e out out_now → status_of e ≡ 0
    ran-well network valid small a has missing run.Finished is (inl done) = ap status_of done.0
    ran-well network valid small a has missing run.Finished is (inr cut) = absurd (sink (ap status_of cut.0))
    ran-well network valid small a has missing run.Held is ends = absurd (held-never network valid small a has is)
    ran-well network valid small a has missing (run.Stopped halt) is ends = stopped a.plan halt.cause ends.0 (stops network valid small a has halt is)
    ran-well network valid small a has missing (run.NoPort switch) is ends = absurd (fleet (missing switch is) (ap status_of ends.0))
    ran-well network valid small a has missing run.Memory is ends = absurd (memory (ap status_of ends.0))

    answered-well : IsNetwork r.problem → is_valid_plan r.problem r.plan ≡ true → limits.migration < 2 ^ 32 → (a : Result RunOutcome JournalFault) → IfOk a HasRolledTo
        → IfErr a (λ why. IsLeft trace r (digest_for r limits.migration) disk why disk_now × (now ≡ before))
        → IfOk a (λ o. (switch : ℕ) → o.end ≡ run.NoPort switch → Rose before.faults now.faults) → EndsWith (by_answer line_or_ending a) e out out_now → status_of e ≡ 0
    answered-well network valid small (Ok o) has unopened missing ends = ran-well network valid small o has missing o.end refl ends
    answered-well network valid small (Err why) has unopened missing ends =
        let told = of_some (λ image. IsCause why (digest_for r limits.migration) (verdict r (digest_for r limits.migration) image)) (trace disk).bytes goes.image goes.told unopened.0.refusal in
        absurd (unopened-never trace limits source source_now disk r found goes why e told ends.0 (λ is. device (unopened.0.failed is)) memory)

-- ---- by the disk as it was at first

module _ {D P : Type 0} (trace : D → DiskTrace) (tell : P → PortTrace)
    (limits : Limits) (policy : OpView → ℕ) (source source_now : SourceTrace) (disk disk_now : D) (before now : FleetSeen P) (out out_now : Option (List ℕ)) (r : Rollout) (found : History)
    (goes : GoesOnFrom limits.migration source source_now (trace disk).bytes r found) (ready : IsReadyFor tell limits policy before.ports.waiting r found) where
  later-rose : (opened : D) → Opens (trace disk) (trace opened) → Rose (trace opened).faults (trace disk_now).faults → Rose (trace disk).faults (trace disk_now).faults
  later-rose opened opens rose = rose_since (trace disk).faults (trace opened).faults (trace disk_now).faults opens.count rose

  abbrev RollsTo : CommandEnd → Type 0
  RollsTo e = Rolls trace tell (IsInput source source_now) limits policy disk disk_now before now e out out_now

  abbrev HasRolledFrom : D → RunOutcome → Type 0
  HasRolledFrom opened a = HasRolled trace tell r (digest_for r limits.migration) policy limits.rounds opened before.ports now.ports disk_now a

  -- by what is known of the cause of a stop
  module _ (Stops : Cause → Type 0)
      (stops : (opened : D) → Opens (trace disk) (trace opened) → IsNetwork r.problem → is_valid_plan r.problem r.plan ≡ true → limits.migration < 2 ^ 32 → (a : RunOutcome) → HasRolledFrom opened a → (halt : Halt) → a.end ≡ run.Stopped halt → Stops halt.cause)
      (e : CommandEnd) (read : status_of e ≡ 6 → ⊥) (sink : status_of e ≡ 7 → ⊥) (memory : status_of e ≡ 12 → ⊥) (device : Rose (trace disk).faults (trace disk_now).faults → status_of e ≡ 8 → ⊥) (fleet : Rose before.faults now.faults → status_of e ≡ 9 → ⊥)
      (stopped : (other : Rollout) (why : Cause) → e ≡ ending_of_stop other why → Stops why → status_of e ≡ 0) where
    opened-well : OpensAndRolls trace tell r limits policy disk disk_now before now e out out_now → status_of e ≡ 0
    opened-well (inl fails) = absurd (device fails.failed (ap status_of fails.is))
    opened-well (inr begun) =
        let rolls = begun.rolls in
        answered-well trace tell limits policy source source_now begun.opened disk_now before now out out_now r found (goes-opened trace limits source source_now disk r found goes begun.opened begun.opens) ready
        Stops (stops begun.opened begun.opens) e read sink memory (λ rose. device (later-rose begun.opened begun.opens rose)) fleet stopped
        rolls.network rolls.valid rolls.small rolls.answer rolls.rolled rolls.unopened rolls.no_port (follows-ends (by_answer line_or_ending rolls.answer) e out out_now rolls.follows memory)

    rolled-well : RollsTo e → status_of e ≡ 0
    rolled-well (inl none) = absurd (unbegun-never trace limits source source_now disk r found goes e none.why read memory)
    rolled-well (inr rolled) =
        let told : goes.input ≡ rolled.input = told-within source source_now rolled.input goes.input rolled.given (rolled-within goes.input r goes.is) goes.told_input in
        let both : Ok r ≡ Ok rolled.r = sym goes.is ∙ (ap rollout_to told ∙ rolled.is) in
        let same : rolled.r ≡ r = sym (cc both) in
        opened-well (subst (λ (x : Rollout). OpensAndRolls trace tell x limits policy disk disk_now before now e out out_now) same rolled.rolls)

  -- by the status of an ending that is told by itself
  by-ending : (status : ℕ) → RollsAs trace tell (IsInput source source_now) limits policy disk disk_now before now status out out_now → status ≢ 12
      → ((e : CommandEnd) → RollsTo e → ((n : ℕ) → status ≢ n → status_of e ≡ n → ⊥) → status_of e ≡ 0) → status ≡ 0
  by-ending status rolls memory well =
      let told : (n : ℕ) → status ≢ n → status_of rolls.told ≡ n → ⊥ = λ n other is. other (rolls.is_status ∙ is) in
      let same : rolls.told ≡ rolls.ending = sym (told-same rolls.ending rolls.told rolls.told_as (λ m. told 12 memory (ap status_of m))) in
      rolls.is_status ∙ (ap status_of same ∙ well rolls.ending rolls.rolls (λ n other is. told n other (ap status_of same ∙ is)))

  excused-well : (e : CommandEnd) → (status_of e ≡ 8 → ⊥) → (status_of e ≡ 9 → ⊥) → (status_of e ≡ 12 → ⊥) → (other : Rollout) (why : Cause) → e ≡ ending_of_stop other why → IsExcused why → status_of e ≡ 0
  excused-well e device fleet memory other (cause.Spent rounds item number) is excused = absurd excused
  excused-well e device fleet memory other (cause.Port switch) is excused = absurd (fleet (ap status_of is))
  excused-well e device fleet memory other (cause.Above item held begun) is excused = absurd excused
  excused-well e device fleet memory other (cause.NotMine switch item) is excused = absurd excused
  excused-well e device fleet memory other (cause.NoAnswer switch byte) is excused = absurd excused
  excused-well e device fleet memory other cause.Disk is excused = absurd (device (ap status_of is))
  excused-well e device fleet memory other cause.Memory is excused = absurd (memory (ap status_of is))

  wanting-well : (e : CommandEnd) → (status_of e ≡ 12 → ⊥) → (other : Rollout) (why : Cause) → e ≡ ending_of_stop other why → IsWant why → status_of e ≡ 0
  wanting-well e memory other (cause.Spent rounds item number) is want = absurd want
  wanting-well e memory other (cause.Port switch) is want = absurd want
  wanting-well e memory other (cause.Above item held begun) is want = absurd want
  wanting-well e memory other (cause.NotMine switch item) is want = absurd want
  wanting-well e memory other (cause.NoAnswer switch byte) is want = absurd want
  wanting-well e memory other cause.Disk is want = absurd want
  wanting-well e memory other cause.Memory is want = absurd (memory (ap status_of is))

  pub ready-ends-well : (status : ℕ) → RollsAs trace tell (IsInput source source_now) limits policy disk disk_now before now status out out_now
      → status ≢ 6 → status ≢ 7 → status ≢ 8 → status ≢ 9 → status ≢ 12 → status ≡ 0
  ready-ends-well status rolls read sink device fleet memory =
      by-ending status rolls memory
      (λ e to over. rolled-well IsExcused
      (λ opened opens network valid small a has halt is.
      stop-excused trace tell limits policy source source_now opened disk_now before now out out_now r found (goes-opened trace limits source source_now disk r found goes opened opens) ready network valid small a has halt is)
      e (over 6 read) (over 7 sink) (over 12 memory) (λ rose. over 8 device) (λ rose. over 9 fleet) (excused-well e (over 8 device) (over 9 fleet) (over 12 memory)) to)

  pub unfailing-ends-well : CountsNoFault tell (trace disk).faults (trace disk_now).faults before now
      → (status : ℕ) → RollsAs trace tell (IsInput source source_now) limits policy disk disk_now before now status out out_now
      → status ≢ 6 → status ≢ 7 → status ≢ 12 → status ≡ 0
  unfailing-ends-well counts status rolls read sink memory =
      by-ending status rolls memory
      (λ e to over. rolled-well IsWant
      (λ opened opens network valid small a has halt is.
      stop-wants trace tell limits policy source source_now opened disk_now before now out out_now r found (goes-opened trace limits source source_now disk r found goes opened opens) ready network valid small a has
      (record { disk = λ rose. counts.disk (later-rose opened opens rose); fleet = counts.fleet; ports = counts.ports }) halt is)
      e (over 6 read) (over 7 sink) (over 12 memory) (λ rose eight. counts.disk rose) (λ rose nine. counts.fleet rose) (wanting-well e (over 12 memory)) to)

-- A rollout that is run from the journal of a takeover, over ports that are ready, ends well.
use Rattle.std.proofs.Common.{◌≡◌, ◌⊎◌, ℕ, suc, ◌<◌, ◌≤◌, ◌^◌, true, List, [], ◌∷◌, length, Option, Some, Result, Ok, Err, IfOk, IfErr, inl, inr, refl, sym, ap, ◌∙◌, subst, arith}
use Rattle.std.specs.List.{All, AllByRecursion, Contains}
use Rattle.std.proofs.lemmas.Bool.{cases_eq}
use Rattle.std.proofs.lemmas.List.Elements.{All-cons, All-contains, All-nil}
use Rattle.std.proofs.lemmas.Option.{same_Some}
use Rattle.lists.proofs.Options.{of_some}
use Rattle.rollout_rules.specs.History.{History, started}
use Rattle.rollout_rules.specs.Items.{item_count}
use Rattle.rollout_rules.specs.Legal.{is_sound, unsettled}
use Rattle.rollout_rules.specs.Network.{IsNetwork}
use Rattle.rollout_rules.specs.Valid.{is_valid_plan}
use Rattle.rollout_rules.specs.Wan.{Rollout}
use Rattle.rollout_rules.specs.declared.held.Held.{Held}
use Rattle.rollout_rules.specs.declared.op.OpView.{OpView}
use Rattle.rollout_laws.specs.Waiting.{HoldsNothing}
use Rattle.wan_edge.proofs.Faults.{rose_since}
use Rattle.disk_model.specs.Traces.{DiskTrace}
use Rattle.wan_edge.specs.Ports.{PortTrace}
use Rattle.wan_edge.specs.Streams.{Rose, SinkTrace}
use Rattle.intent_journal.specs.Images.{journal_in}
use Rattle.intent_journal.specs.Openings.{IsLeft, found_by}
use Rattle.intent_journal.specs.Recovered.{IsCause}
use Rattle.intent_journal.specs.Verdicts.{Stands, Verdict, verdict}
use Rattle.intent_journal.specs.declared.fault.JournalFault.{JournalFault}
use Rattle.intent_journal.specs.declared.fault.JournalFault.TheVariants as fault
use Rattle.shared_book.specs.declared.note.Cause.TheVariants as cause
use Rattle.shared_book.specs.declared.call_reply.Halt.{Halt}
use Rattle.shared_book.specs.Homes.{homes_of}
use Rattle.shared_book.specs.Opened.{opening_of}
use Rattle.port_session.specs.Sessions.{SessionView, first_session}
use Rattle.switch_ports.specs.Berths.{switches_of}
use Rattle.switch_ports.specs.Hands.{first_sessions}
use Rattle.switch_ports.specs.Homes.{working_homes}
use Rattle.switch_ports.specs.Opening.{AreGiven, IsGiven}
use Rattle.switch_ports.specs.Views.{SessionTrace, view}
use Rattle.switch_ports.specs.declared.ports.Berth.{Berth}
use Rattle.rollout_report.specs.Journals.{digest_for}
use Rattle.controller_run.specs.Ran.{EndsRun, Ran}
use Rattle.controller_run.specs.declared.end.RunEnd.{RunEnd}
use Rattle.controller_run.specs.declared.end.RunEnd.TheVariants as run
use Rattle.controller_run.specs.declared.running.Limits.{Limits}
use Rattle.controller_run.specs.RolloutEnds.{HasRolled}
use Rattle.controller_run.specs.declared.outcome.RunOutcome.{RunOutcome}
use Rattle.completion_laws.specs.Answering.{IsUpToDate}
use Rattle.completion_laws.specs.Faults.{IsWithoutFault}
use Rattle.completion_laws.specs.Finishing.{EndsOrIsExcused, IsServed, IsWant}
use Rattle.completion_laws.proofs.Excused.{held-none, ran-served}
use Rattle.completion_laws.proofs.Finished.{only-want}
use Rattle.completion_laws.proofs.NoFaults.{no-fault}
use Rattle.fence_takeover.specs.Beginnings.{taken_kept}
use Rattle.text_commands.specs.CommandEnds.{ending_of_journal, status_of}
use Rattle.text_commands.specs.Runs.{EndsWith}
use Rattle.text_commands.specs.declared.command_end.CommandEnd.{CommandEnd}
use Rattle.text_commands.proofs.Programs.{follows-ends}
use Rattle.swanroll_top.specs.Ready.{CountsNoFault}
use Rattle.swanroll_top.specs.Rollouts.{FleetSeen, by_answer}
use Rattle.swanroll_top.proofs.CertainBack.{wanting-never}
use Rattle.takeover_top.specs.Endings.{taken_at, taken_or_ending}
use Rattle.takeover_top.specs.Lines.{start_total}
use Rattle.takeover_top.specs.ReadyToTake.{IsReadyToTell}
use Rattle.takeover_top.specs.Takings.{RunsOn}
use Rattle.takeover_top.specs.declared.ending.TakeoverEnding.{TakeoverEnding}
use Rattle.takeover_top.proofs.PlacedStands.{verdict-stands}
use Rattle.takeover_top.proofs.PromptVisits.{AreHere, IsHere}

-- a port that is ready is up to date after the start
up-to-date : (r : Rollout) (migration : ℕ) (start : List ℕ) (first : SessionTrace) → IsReadyToTell r migration start first → IsUpToDate r migration (homes_of r.problem) (started start) first
up-to-date r migration start first ready = record {
  commands = ready.commands;
  answered = ready.answered;
  held = λ n low home. elim (ready.holds n low home).pair [
    | inl same ↦ inl (ap (λ (h : Held). h.migration) same, omega (arith, ap (λ (h : Held). h.number) same), omega (arith, ap (λ (h : Held). h.number) same))
    | inr earlier ↦ inr earlier.0
  ];
}

module _ {D P : Type 0} (trace : D → DiskTrace) (tell : P → PortTrace)
    (r : Rollout) (net : IsNetwork r.problem) (limits : Limits) (policy : OpView → ℕ) (small : limits.migration < 2 ^ 32) (start : List ℕ) (long : length start ≡ item_count r.problem) (sound : is_sound r.problem r.plan start ≡ true)
    (some : 0 < limits.rounds) (enough : unsettled r.problem r.plan (started start) ≤ limits.rounds) (firsts : ℕ → Option P)
    (count : ℕ) (placed disk_now : D) (later : count ≤ (trace placed).faults) (image : List ℕ) (told : (trace placed).bytes ≡ Some image) (keeps : journal_in image ≡ Some (taken_kept r limits.migration start))
    (before mid now : FleetSeen P) (fleet_later : before.faults ≤ mid.faults) (waits : before.ports.waiting ≡ Some firsts) (here : AreHere tell r net limits.migration small start limits.rounds some firsts mid.ports)
    (counts : CountsNoFault tell count (trace disk_now).faults before now) where
  abbrev Here : (ℕ → Option P) → ℕ → Type 0
  Here waiting switch = IsHere tell r net limits.migration small start limits.rounds some firsts waiting switch

  stands : verdict r (digest_for r limits.migration) image ≡ Stands start []
  stands = verdict-stands r (digest_for r limits.migration) start image keeps long sound

  begins : found_by r (verdict r (digest_for r limits.migration) image) ≡ Some (started start)
  begins = ap (found_by r) stands

  -- ---- the ports that were opened

  opened-up : (bs : List (Berth P)) → AllByRecursion (IsGiven tell (Some here.waiting)) bs → ((switch : ℕ) → Contains (switches_of bs) switch → Here here.waiting switch)
      → All (λ t. IsUpToDate r limits.migration (homes_of r.problem) (started start) (view tell t)) (first_sessions bs)
  opened-up [] given each = All-nil (λ t. IsUpToDate r limits.migration (homes_of r.problem) (started start) (view tell t))
  opened-up (b ∷ bs) given each =
      let own = each b.switch (0, omega arith, refl) in
      let same : own.port ≡ b.port = same_Some own.port b.port (sym own.waits ∙ given.0) in
      All-cons (λ t. IsUpToDate r limits.migration (homes_of r.problem) (started start) (view tell t)) (first_session b.switch b.port) (first_sessions bs)
      (up-to-date r limits.migration start (view tell (first_session b.switch b.port)) (subst (λ (p : P). IsReadyToTell r limits.migration start (view tell (first_session b.switch p))) same own.ready))
      (opened-up bs given.1 (λ switch at. each switch (suc at.0, omega (arith, at.1), at.2)))

  -- whose first port failed no more often
  abbrev WasFirst : SessionView P → Type 0
  WasFirst t = (first : P) × (firsts t.switch ≡ Some first) × ((tell first).faults ≤ (tell t.port).faults)

  opened-first : (bs : List (Berth P)) → AllByRecursion (IsGiven tell (Some here.waiting)) bs → ((switch : ℕ) → Contains (switches_of bs) switch → Here here.waiting switch) → All WasFirst (first_sessions bs)
  opened-first [] given each = All-nil WasFirst
  opened-first (b ∷ bs) given each =
      let own = each b.switch (0, omega arith, refl) in
      let same : own.port ≡ b.port = same_Some own.port b.port (sym own.waits ∙ given.0) in
      All-cons WasFirst (first_session b.switch b.port) (first_sessions bs) (own.first, own.first_is, subst (λ (p : P). (tell own.first).faults ≤ (tell p).faults) same own.count)
      (opened-first bs given.1 (λ switch at. each switch (suc at.0, omega (arith, at.1), at.2)))

  -- ---- a rollout that was run

  module _ (valid : is_valid_plan r.problem r.plan ≡ true) (a : RunOutcome) (has : HasRolled trace tell r (digest_for r limits.migration) policy limits.rounds placed mid.ports now.ports disk_now a) where
    abbrev RanTo : RunEnd → Type 0
    RanTo end = Ran trace tell (opening_of has.book policy) (trace has.book.disk).moment (trace has.book.disk).faults limits.migration limits.rounds
        (working_homes has.book.rollout.problem has.book.rollout.plan) mid.ports end has.run.closed now.ports

    -- the book begins there
    found-is : has.book.history ≡ started start
    found-is = same_Some has.book.history (started start) (sym (of_some (λ all. found_by r (verdict r (digest_for r limits.migration) all) ≡ Some has.book.history) (trace placed).bytes image told has.opened.found) ∙ begins)

    rollout-is : has.book.rollout ≡ r
    rollout-is = has.opened.rollout

    module _ (end : RunEnd) (ran : RanTo end) where
      given-here : AllByRecursion (IsGiven tell (Some here.waiting)) ran.berths
      given-here = subst (λ (w : Option (ℕ → Option P)). AreGiven tell w ran.berths) here.told ran.given

      each-here : (switch : ℕ) → Contains (switches_of ran.berths) switch → Here here.waiting switch
      each-here switch at = here.each switch (subst (λ (ns : List ℕ). Contains ns switch) (ran.switches ∙ ap (λ (x : Rollout). working_homes x.problem x.plan) rollout-is) at)

      served : IsServed tell (opening_of has.book policy) limits.migration (homes_of has.book.rollout.problem) limits.rounds (first_sessions ran.berths)
      served = record {
        network = subst (λ (x : Rollout). IsNetwork x.problem) (sym rollout-is) net;
        plan = subst (λ (x : Rollout). is_valid_plan x.problem x.plan ≡ true) (sym rollout-is) valid;
        small = small;
        up = subst (λ (x : Rollout). All (λ t. IsUpToDate x limits.migration (homes_of x.problem) has.book.history (view tell t)) (first_sessions ran.berths)) (sym rollout-is)
            (subst (λ (h : History). All (λ t. IsUpToDate r limits.migration (homes_of r.problem) h (view tell t)) (first_sessions ran.berths)) (sym found-is) (opened-up ran.berths given-here each-here));
        enough = subst (λ (x : Rollout). unsettled x.problem x.plan has.book.history ≤ limits.rounds) (sym rollout-is) (subst (λ (h : History). unsettled r.problem r.plan h ≤ limits.rounds) (sym found-is) enough);
      }

      ends-so : EndsOrIsExcused end
      ends-so =
          ran-served trace tell (opening_of has.book policy) (trace has.book.disk).moment (trace has.book.disk).faults limits.migration limits.rounds
          (working_homes has.book.rollout.problem has.book.rollout.plan) mid.ports end has.run.closed now.ports ran served

      without : IsWithoutFault tell (Rose (trace has.book.disk).faults (trace has.run.closed.disk).faults) (first_sessions ran.berths) now.ports.kept
      without = record {
        disk = λ rose. counts.disk (rose_since count (trace has.book.disk).faults (trace disk_now).faults (omega (arith, later, has.opened.on.count))
            (subst (λ (d : D). Rose (trace has.book.disk).faults (trace d).faults) (sym has.run.back) rose));
        ports = λ t at back kept rose.
            let first = All-contains WasFirst (first_sessions ran.berths) t (opened-first ran.berths given-here each-here) at in
            of_some (λ (waiting : ℕ → Option P). (switch : ℕ) (first back : P) → waiting switch ≡ Some first → now.ports.kept switch ≡ Some back → Rose (tell first).faults (tell back).faults → ⊥)
            before.ports.waiting firsts waits counts.ports t.switch first.0 back first.1 kept (rose_since (tell first.0).faults (tell t.port).faults (tell back).faults first.2 rose);
      }

    abbrev Ended : RunEnd → Type 0
    Ended end = EndsRun tell (working_homes has.book.rollout.problem has.book.rollout.plan) has.book has.run.closed mid.ports now.ports (RanTo end) end

    ended-is : Ended a.end
    unfolding digest_for
    ended-is = has.run.ran

    -- what stopped it is lack of memory
    stop-wants : (halt : Halt) → a.end ≡ run.Stopped halt → IsWant halt.cause
    stop-wants halt is =
        let ended : RanTo (run.Stopped halt) = subst Ended is ended-is in
        let o = opening_of has.book policy in
        only-want halt.cause (ends-so (run.Stopped halt) ended)
        (no-fault tell (Rose (trace has.book.disk).faults (trace has.run.closed.disk).faults) (first_sessions ended.berths) now.ports.kept (without (run.Stopped halt) ended) o limits.migration (homes_of o.rollout.problem) limits.rounds ended.log halt.cause ended.reason)

    -- nothing is held by a policy that holds nothing back
    held-never : HoldsNothing policy → a.end ≡ run.Held → ⊥
    held-never free is =
        held-none trace tell (opening_of has.book policy) (trace has.book.disk).moment (trace has.book.disk).faults limits.migration limits.rounds
        (working_homes has.book.rollout.problem has.book.rollout.plan) mid.ports has.run.closed now.ports (subst Ended is ended-is)
        (subst (λ (x : Rollout). IsNetwork x.problem) (sym rollout-is) net) (subst (λ (x : Rollout). is_valid_plan x.problem x.plan ≡ true) (sym rollout-is) valid) free

  -- ---- what isn't begun

  unopened-never : (why : JournalFault) (v : Verdict) → v ≡ Stands start [] → IsCause why (digest_for r limits.migration) v → (why ≡ fault.Disk → ⊥) → (why ≡ fault.Memory → ⊥) → ⊥
  unopened-never (fault.NotJournal first) v is cause device memory = let no = sym cause ∙ is in cc no
  unopened-never (fault.OtherPlan kept wanted) v is cause device memory = let no = sym cause.0 ∙ is in cc no
  unopened-never (fault.Illegal place) v is cause device memory = let no = sym cause ∙ is in cc no
  unopened-never fault.BadStart v is cause device memory = let no = sym cause ∙ is in cc no
  unopened-never fault.Disk v is cause device memory = device refl
  unopened-never fault.Memory v is cause device memory = memory refl

  -- ---- how it ends

  module _ (ending : TakeoverEnding) (sink sink_now : SinkTrace) (runs : RunsOn trace tell r limits policy start placed disk_now mid now ending sink sink_now) (unfailed : Rose sink.faults sink_now.faults → ⊥) where
    abbrev e : CommandEnd
    e = runs.ended

    abbrev HasRolledTo : RunOutcome → Type 0
    HasRolledTo a = HasRolled trace tell r (digest_for r limits.migration) policy limits.rounds placed mid.ports now.ports disk_now a

    abbrev total : ℕ
    total = start_total (item_count r.problem) start

    by-end : (status_of e ≡ 12 → ⊥) → (a : RunOutcome) → HasRolledTo a → ((switch : ℕ) → a.end ≡ run.NoPort switch → Rose mid.faults now.faults) → (end : RunEnd) → a.end ≡ end
        → EndsWith (taken_at total end a) e sink.written sink_now.written → (status_of e ≡ 0) ⊎ ((status_of e ≡ 14) × (HoldsNothing policy → ⊥))
    by-end memory a has missing run.Finished is (inl done) = inl (ap status_of done.0)
    by-end memory a has missing run.Finished is (inr cut) = absurd (unfailed (runs.write_fault cut.0))
    by-end memory a has missing run.Held is ends = inr (ap status_of ends.0, λ free. held-never runs.valid a has free is)
    by-end memory a has missing (run.Stopped halt) is ends = absurd (wanting-never e a.plan halt.cause ends.0 (stop-wants runs.valid a has halt is) memory)
    by-end memory a has missing (run.NoPort switch) is ends = absurd (counts.fleet (rose_since before.faults mid.faults now.faults fleet_later (missing switch is)))
    by-end memory a has missing run.Memory is ends = absurd (memory (ap status_of ends.0))

    by-answer : (status_of e ≡ 12 → ⊥) → (a : Result RunOutcome JournalFault) → IfOk a HasRolledTo → IfErr a (λ why. IsLeft trace r (digest_for r limits.migration) placed why disk_now × (now ≡ mid))
        → IfOk a (λ o. (switch : ℕ) → o.end ≡ run.NoPort switch → Rose mid.faults now.faults) → EndsWith (by_answer (taken_or_ending total) a) e sink.written sink_now.written
        → (status_of e ≡ 0) ⊎ ((status_of e ≡ 14) × (HoldsNothing policy → ⊥))
    by-answer memory (Ok o) has unopened missing ends = by-end memory o has missing o.end refl ends
    by-answer memory (Err why) has unopened missing ends =
        absurd (unopened-never why (verdict r (digest_for r limits.migration) image) stands
        (of_some (λ all. IsCause why (digest_for r limits.migration) (verdict r (digest_for r limits.migration) all)) (trace placed).bytes image told unopened.0.refusal)
        (λ is. counts.disk (rose_since count (trace placed).faults (trace disk_now).faults later (unopened.0.failed is)))
        (λ is. memory (ap status_of (ends.0 ∙ ap ending_of_journal is))))

    pub run-well : (status_of e ≡ 12) ⊎ ((status_of e ≡ 0) ⊎ ((status_of e ≡ 14) × (HoldsNothing policy → ⊥)))
    run-well = elim (cases_eq (status_of e) 12) [
      | inl memory ↦ inl memory
      | inr other ↦ inr (by-answer other runs.answer runs.rolled runs.unopened runs.no_port (follows-ends (by_answer (taken_or_ending total) runs.answer) e sink.written sink_now.written runs.follows other))
    ]

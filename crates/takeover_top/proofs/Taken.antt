-- What stands after a takeover that was begun, by what came of the rollout that was run from its journal.
use Rattle.std.proofs.Common.{◌≡◌, ℕ, List, [], Option, Some, None, IfSome, Result, Ok, IfOk, refl, sym, ap, ◌∙◌, subst, inl, inr, arith}
use Rattle.lists.proofs.Options.{some_itself}
use Rattle.rollout_rules.specs.History.{started}
use Rattle.rollout_rules.specs.Items.{item_count}
use Rattle.rollout_rules.specs.Wan.{Rollout}
use Rattle.rollout_rules.specs.declared.op.OpView.{OpView}
use Rattle.wan_edge.specs.Ports.{PortTrace}
use Rattle.wan_edge.specs.Streams.{Appends, KeepsTelling, SinkTrace}
use Rattle.disk_model.specs.Moments.{GoesOn}
use Rattle.disk_model.specs.Traces.{DiskTrace}
use Rattle.disk_mirror.specs.Openings.{IsTold, Opens}
use Rattle.dependency_graph.specs.Graph.{op_total}
use Rattle.intent_journal.specs.Phases.{IsFresh}
use Rattle.intent_journal.specs.Openings.{found_by}
use Rattle.intent_journal.specs.declared.fault.JournalFault.{JournalFault}
use Rattle.intent_journal.specs.Verdicts.{verdict}
use Rattle.rollout_report.specs.Journals.{digest_for}
use Rattle.switch_ports.specs.Berths.{FleetPorts}
use Rattle.controller_run.specs.declared.end.RunEnd.{RunEnd}
use Rattle.controller_run.specs.declared.running.Limits.{Limits}
use Rattle.controller_run.specs.RolloutEnds.{HasRolled}
use Rattle.controller_run.specs.declared.outcome.RunOutcome.{RunOutcome}
use Rattle.fence_takeover.specs.Fences.{IsFencedOff}
use Rattle.rollback_service.specs.Placings.{HasPlaced, MayPlace}
use Rattle.fence_takeover.specs.Beginnings.{MayBegin, taken_kept}
use Rattle.fence_takeover.proofs.Starts.{taken-long}
use Rattle.text_commands.specs.Answers.{rollout_to}
use Rattle.text_commands.specs.CommandEnds.{status_of}
use Rattle.text_commands.specs.Runs.{Follows}
use Rattle.text_commands.specs.declared.command_end.CommandEnd.{CommandEnd}
use Rattle.text_commands.specs.declared.command_end.CommandEnd.TheVariants.{Done}
use Rattle.swanroll_top.specs.Rollouts.{FleetSeen, RollsAs, RollsOut, RollsOutOf, by_answer, ending_at}
use Rattle.swanroll_top.specs.NextStarts.{NextStart}
use Rattle.swanroll_top.specs.Targets.{EndsSafely, ReachesTarget, StaysSafe}
use Rattle.swanroll_top.proofs.NextStarting.{rolls-next}
use Rattle.swanroll_top.proofs.Reaching.{is-told, rolls-ends, rolls-safe, rolls-target}
use Rattle.takeover_top.specs.Endings.{taken_or_ending}
use Rattle.takeover_top.specs.Lines.{start_total, taken_line}
use Rattle.takeover_top.specs.Takings.{RunsOn}
use Rattle.takeover_top.specs.TakenTargets.{IsOfTaken, TakesSafely}
use Rattle.takeover_top.specs.declared.ending.TakeoverEnding.{TakeoverEnding}
use Rattle.takeover_top.proofs.Fitting.{begun-as, done-as, ending_as, follows-as, text_as}
use Rattle.takeover_top.proofs.Placed.{found-taken}

-- a disk that isn't called is opened
opens-same : {D : Type 0} (trace : D → DiskTrace) (disk : D) → Opens (trace disk) (trace disk)
opens-same trace disk = record {
  same = some_itself (trace disk).bytes;
  crash = within (trace disk).bytes;
  time = goes (trace disk).bytes;
  count = omega arith;
}
  where
    within : (told : Option (List ℕ)) → IfSome told (λ _. (c : List ℕ) → (trace disk).may_leave c → (trace disk).may_leave c)
    within None = tt
    within (Some all) = λ c may. may

    goes : (told : Option (List ℕ)) → IfSome told (λ _. GoesOn (trace disk) (trace disk) (trace disk).may_leave)
    goes None = tt
    goes (Some all) = record { later = omega arith; keeps = λ t c le past. past; nothing_else = λ t c le since. inl since }

untold-not : (told : Option (List ℕ)) → IsTold told → told ≡ None → ⊥
untold-not told is none = let some = is-told told is in let no : ◌≡◌ {A = Option (List ℕ)} None (Some some.0) = sym none ∙ some.1 in cc

-- what was told is told still
pub told-still : (before now : Option (List ℕ)) → KeepsTelling before now → IsTold before → IsTold now
told-still before now keeps told = keeps ∙ told

-- ---- a rollout that was run from the journal

module _ {D P : Type 0} (trace : D → DiskTrace) (tell : P → PortTrace)
    (limits : Limits) (policy : OpView → ℕ) (input : List ℕ) (r : Rollout) (is : rollout_to input ≡ Ok r)
    (start : List ℕ) (placed disk_now : D) (mid now : FleetSeen P) (ending : TakeoverEnding) (sink sink_now : SinkTrace)
    (runs : RunsOn trace tell r limits policy start placed disk_now mid now ending sink sink_now) (told : IsTold (trace placed).bytes) where
  abbrev pub Own : List ℕ → Type 0
  Own bytes = bytes ≡ input

  rolls-out : RollsOut trace tell r limits policy placed disk_now mid now (ending_as runs.answer) (Some []) (Some (text_as runs.answer))
  rolls-out = record {
    network = runs.network;
    valid = runs.valid;
    small = runs.small;
    answer = runs.answer;
    rolled = runs.rolled;
    unopened = runs.unopened;
    no_port = runs.no_port;
    follows = follows-as runs.answer;
  }

  rolls-of : RollsOutOf trace tell Own limits policy placed disk_now mid now (ending_as runs.answer) (Some []) (Some (text_as runs.answer))
  rolls-of = record {
    input = input;
    given = refl;
    r = r;
    is = is;
    rolls = inr (record {
      opened = placed;
      opens = opens-same trace placed;
      told = told;
      within = λ none. absurd (untold-not (trace placed).bytes told none);
      rolls = rolls-out;
    });
  }

  rolls-as : RollsAs trace tell Own limits policy placed disk_now mid now (status_of (ending_as runs.answer)) (Some []) (Some (text_as runs.answer))
  rolls-as = record { ending = ending_as runs.answer; told = ending_as runs.answer; told_as = inl refl; is_status = refl; rolls = inr rolls-of }

  pub run-ends : EndsSafely trace tell limits Own placed mid.ports now.ports
  run-ends = rolls-ends trace tell Own placed disk_now mid now limits policy (ending_as runs.answer) (Some []) (Some (text_as runs.answer)) (inr rolls-of)

  pub run-next : NextStart trace limits Own placed disk_now
  run-next = rolls-next trace tell Own placed disk_now mid now limits policy (ending_as runs.answer) (Some []) (Some (text_as runs.answer)) (inr rolls-of)

  pub run-safe : IsOfTaken (status_of runs.ended) → StaysSafe trace tell limits Own placed mid.ports now.ports
  run-safe of =
      rolls-safe trace tell Own placed disk_now mid now (Some []) (Some (text_as runs.answer)) limits policy (status_of (ending_as runs.answer)) rolls-as
      (begun-as (start_total (item_count r.problem) start) runs.ended sink.written sink_now.written runs.answer of runs.follows)

  -- and after one that is finished the target is reached, and the line has the numbers of operations
  pub record IsDone : Type 0 where
    pub reaches : ReachesTarget trace tell limits Own placed mid.ports now.ports (Some []) (Some (text_as runs.answer))
    pub line : Appends sink.written (taken_line (op_total r) (start_total (item_count r.problem) start)) sink_now.written

  of-finished : (a : Result RunOutcome JournalFault) (o : RunOutcome) → a ≡ Ok o
      → IfOk a (λ x. HasRolled trace tell r (digest_for r limits.migration) policy limits.rounds placed mid.ports now.ports disk_now x) → o.operations ≡ op_total r
  of-finished a o same rolled =
      let has = subst (λ (y : Result RunOutcome JournalFault). IfOk y (λ x. HasRolled trace tell r (digest_for r limits.migration) policy limits.rounds placed mid.ports now.ports disk_now x)) same rolled in
      ap (λ (x : RunOutcome). x.operations) has.run.tells ∙ ap op_total has.opened.rollout

  pub run-done : runs.ended ≡ Done → IsDone
  run-done done =
      let total = start_total (item_count r.problem) start in
      let finished = done-as total runs.answer sink.written sink_now.written (subst (λ (e : CommandEnd). Follows (by_answer (taken_or_ending total) runs.answer) e sink.written sink_now.written) done runs.follows) in
      record {
        reaches =
            rolls-target trace tell Own placed disk_now mid now (Some []) (Some (text_as runs.answer)) limits policy (status_of (ending_as runs.answer)) rolls-as
            (ap (λ (a : Result RunOutcome JournalFault). status_of (ending_as a)) finished.is ∙ ap (λ (end : RunEnd). status_of (ending_at end finished.outcome)) finished.end_is);
        line = subst (λ (n : ℕ). Appends sink.written (taken_line n total) sink_now.written) (of-finished runs.answer finished.outcome finished.is runs.rolled) finished.line;
      }

-- ---- and it began at what the switches told

module _ {D P : Type 0} (trace : D → DiskTrace) (tell : P → PortTrace)
    (limits : Limits) (Given : List ℕ → Type 0) (input : List ℕ) (given : Given input) (r : Rollout) (is : rollout_to input ≡ Ok r)
    (start : List ℕ) (disk opened placed disk_now : D) (before mid now : FleetPorts P)
    (fenced : IsFencedOff tell r.problem r.plan limits.migration limits.rounds before mid start) (sound : MayBegin r start) (opens : Opens (trace disk) (trace opened))
    (may : MayPlace trace (taken_kept r limits.migration start) opened placed) (has : HasPlaced trace (taken_kept r limits.migration start) placed) (told : IsTold (trace placed).bytes)
    (next : NextStart trace limits (λ bytes. bytes ≡ input) placed disk_now) where
  same-image : (here there : Option (List ℕ)) (image : List ℕ) → IfSome here (λ all. there ≡ Some all) → IfSome here (IsFresh (taken_kept r limits.migration start)) → IsTold here → there ≡ Some image
      → IsFresh (taken_kept r limits.migration start) image
  same-image None there image same fresh told read = absurd (cc told)
  same-image (Some first) there image same fresh told read =
      let both : Some first ≡ Some image = sym same ∙ read in
      let all : first ≡ image = cc both in
      subst (IsFresh (taken_kept r limits.migration start)) all fresh

  pub begins-there : (stays : StaysSafe trace tell limits (λ bytes. bytes ≡ input) placed mid now) → stays.found ≡ started start
  begins-there stays =
      let both : Ok stays.r ≡ Ok r = sym stays.is ∙ (ap rollout_to stays.given ∙ is) in
      let same : stays.r ≡ r = cc both in
      let fresh : IsFresh (taken_kept r limits.migration start) stays.image = same-image (trace placed).bytes (trace stays.opened).bytes stays.image stays.opens.same has.fresh told stays.stored in
      found-taken r (digest_for r limits.migration) start stays.image fresh.keeps (taken-long tell r limits.migration limits.rounds before mid start fenced) stays.found
      (subst (λ (x : Rollout). found_by x (verdict x (digest_for x limits.migration) stays.image) ≡ Some stays.found) same stays.begins)

  abbrev pub takes-safely : StaysSafe trace tell limits (λ bytes. bytes ≡ input) placed mid now → TakesSafely trace tell limits Given disk disk_now before now
  takes-safely stays = record {
    input = input;
    given = given;
    r = r;
    is = is;
    start = start;
    asked = mid;
    fenced = fenced;
    sound = sound;
    opened = opened;
    opens = opens;
    placed = placed;
    may = may;
    has = has;
    stays = stays;
    begins = begins-there stays;
    next = next;
  }

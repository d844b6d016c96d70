-- Status 0 comes from the one way that writes and places.
use Rattle.std.proofs.Common.{◌≡◌, ◌+◌, ℕ, List, [], ◌∷◌, Option, Some, None, Result, Ok, Err, IfOk, IfSome, inl, inr, sym, ap, ◌∙◌, subst, arith}
use Rattle.rollout_rules.specs.Wan.{Problem, Rollout}
use Rattle.rollout_rules.specs.History.{History, no_start}
use Rattle.rollout_laws.proofs.SafeWorlds.{every_world_is_safe}
use Rattle.rollout_laws.proofs.SoundStarts.{no_start-sound}
use Rattle.disk_model.specs.Traces.{DiskTrace}
use Rattle.disk_mirror.specs.Openings.{Opens}
use Rattle.fewest_plan.specs.declared.cause.Cause.{Cause}
use Rattle.fewest_plan.specs.declared.cause.Cause.TheVariants.{Unchosen, Unfound, Stuck}
use Rattle.fewest_plan.specs.declared.cause.NotFound.{NotFound}
use Rattle.scratch_plan.specs.declared.no_plan.NoPlan.TheVariants as no_plan
use Rattle.intent_journal.specs.declared.fault.JournalFault.{JournalFault}
use Rattle.intent_journal.specs.declared.fault.JournalFault.TheVariants as journal
use Rattle.intent_journal.specs.Openings.{found_by}
use Rattle.intent_journal.specs.Parts.{Kept}
use Rattle.intent_journal.specs.Verdicts.{verdict}
use Rattle.rollout_report.specs.Journals.{digest_for}
use Rattle.plan_choose.specs.declared.chosen.Chosen.{Chosen}
use Rattle.retarget_plan.specs.Targets.{Targeted}
use Rattle.retarget_service.specs.Aimed.{AimsFrom, MakesBy}
use Rattle.retarget_service.specs.declared.unwritten.Unwritten.{Unwritten}
use Rattle.retarget_service.specs.declared.unwritten.Unwritten.TheVariants as unwritten
use Rattle.rollback_service.specs.Placings.{HasPlaced}
use Rattle.target_json.specs.Grammar.{target_in}
use Rattle.target_json.specs.declared.fault.TargetFault.{TargetFault}
use Rattle.target_json.specs.declared.fault.TargetFault.TheVariants as fault
use Rattle.wan_edge.specs.Streams.{Appends, SinkTrace, SourceTrace}
use Rattle.text_commands.specs.Answers.{IsChosenBy, rollout_in}
use Rattle.text_commands.specs.CommandEnds.{ending_of_journal, ending_without, status_of}
use Rattle.text_commands.specs.Reading.{IsShortInput, ReadsInput}
use Rattle.text_commands.specs.Runs.{Gives, IsTold}
use Rattle.text_commands.specs.declared.command_end.CommandEnd.{CommandEnd}
use Rattle.text_commands.specs.declared.command_end.CommandEnd.TheVariants.{Done, OutOfMemory}
use Rattle.text_commands.specs.declared.words.Planner.{Planner}
use Rattle.text_commands.proofs.Answering.{rollout-gives}
use Rattle.text_commands.proofs.Statuses.{is-done}
use Rattle.retarget_top.specs.Aims.{GivesAim, HasNoAim, HasNoRollout, IsWanted, WantsBy, aim_in, link_named, shedding, toward}
use Rattle.retarget_top.specs.Elsewhere.{GoesElsewhere}
use Rattle.retarget_top.specs.Endings.{ending_of_target, ending_of_unwritten}
use Rattle.retarget_top.specs.RetargetPromise.{ByInput, ByWanted, RetargetPromise, RetargetTold}
use Rattle.retarget_top.specs.Retargets.{ByChosen, ByImage, ByMade, IsPlacedOrNot, IsUnwritten, OpensAndRetargets, WritesAndPlaces, kept_next, next_text}
use Rattle.retarget_top.specs.declared.ending.RetargetEnding.{RetargetEnding}
use Rattle.retarget_top.specs.declared.ending.RetargetEnding.TheVariants.{Ended, NoLink, Target, Unleft}
use Rattle.retarget_top.specs.declared.ending.Wanted.{Wanted}

-- ---- the ending of status 0

told-done : (e : CommandEnd) (status : ℕ) (before now : SinkTrace) → IsTold e status before.written now.written before.faults now.faults → status ≡ 0 → e ≡ Done
told-done e status before now told zero = elim told.is as (λ _. e ≡ Done) [
  | inl same ↦ sym same ∙ is-done told.told (sym told.is_status ∙ zero)
  | inr memory ↦ absurd (omega (arith, told.is_status, zero, ap status_of memory.0))
]

no-memory : (status : ℕ) (before now : SinkTrace) → IsTold OutOfMemory status before.written now.written before.faults now.faults → status ≡ 0 → ⊥
no-memory status before now told zero = let same : OutOfMemory ≡ Done = told-done OutOfMemory status before now told zero in cc

ends-done : (shed : List ℕ) (ending : RetargetEnding) (status : ℕ) (before now : SinkTrace) → RetargetTold shed ending status before now → status ≡ 0 → ending ≡ Ended Done
ends-done shed (Ended e) status before now told zero = ap Ended (told-done e status before now told zero)
ends-done shed (Target f) status before now (inl line) zero = absurd (omega (arith, line.0, zero))
ends-done shed (Target f) status before now (inr memory) zero = absurd (no-memory status before now memory zero)
ends-done shed NoLink status before now (inl line) zero = absurd (omega (arith, line.0, zero))
ends-done shed NoLink status before now (inr memory) zero = absurd (no-memory status before now memory zero)
ends-done shed (Unleft cause) status before now (inl line) zero = absurd (omega (arith, line.0, zero))
ends-done shed (Unleft cause) status before now (inr memory) zero = absurd (no-memory status before now memory zero)

-- ---- endings that are others

journal-other : (cause : JournalFault) → Ended (ending_of_journal cause) ≡ Ended Done → ⊥
journal-other journal.Disk e = absurd (cc e)
journal-other journal.Memory e = absurd (cc e)
journal-other (journal.NotJournal first) e = absurd (cc e)
journal-other (journal.OtherPlan kept wanted) e = absurd (cc e)
journal-other journal.BadStart e = absurd (cc e)
journal-other (journal.Illegal place) e = absurd (cc e)

plan-other : (p : Problem) (cause : Cause) → Ended (ending_without p cause) ≡ Ended Done → ⊥
plan-other p (Unchosen no_plan.Memory) e = absurd (cc e)
plan-other p (Unchosen (no_plan.OverCapacity link side load capacity)) e = absurd (cc e)
plan-other p (Unchosen (no_plan.TableFull switch wanted size)) e = absurd (cc e)
plan-other p (Unchosen (no_plan.NoSlack link side load capacity)) e = absurd (cc e)
plan-other p (Unfound cause) e = absurd (cc e)
plan-other p (Stuck link) e = absurd (cc e)

problem-other : (why : Unwritten) → ending_of_unwritten why ≡ Ended Done → ⊥
problem-other (unwritten.Refused cause) e = journal-other cause e
problem-other (unwritten.Unleft cause) e = absurd (cc e)
problem-other unwritten.Memory e = absurd (cc e)

target-other : (f : TargetFault) → ending_of_target f ≡ Ended Done → ⊥
target-other fault.NotJson e = absurd (cc e)
target-other (fault.At place wrong) e = absurd (cc e)
target-other fault.Memory e = absurd (cc e)

toward-other : (answer : Result Targeted TargetFault) → toward answer ≡ Err (Ended Done) → ⊥
toward-other (Ok target) e = absurd (cc e)
toward-other (Err f) e = target-other f (cc e)

shedding-other : (link : Option ℕ) → shedding link ≡ Err (Ended Done) → ⊥
shedding-other (Some link) e = absurd (cc e)
shedding-other None e = absurd (cc e)

aim-other : (shed : List ℕ) (p : Problem) (input : List ℕ) → aim_in shed p input ≡ Err (Ended Done) → ⊥
aim-other [] p input e = toward-other (target_in p input) e
aim-other (c ∷ name) p input e = shedding-other (link_named p (c ∷ name)) e

rollout-other : (input : List ℕ) (e : RetargetEnding) → HasNoRollout input e → e ≡ Ended Done → ⊥
rollout-other input e none done =
    let same : none.ending ≡ Done = cc (sym none.is ∙ done) in
    let gives : Gives {A = Rollout} (Err Done) (rollout_in input) = subst (λ (x : CommandEnd). Gives {A = Rollout} (Err x) (rollout_in input)) same none.gives in
    absurd (cc (rollout-gives input Done gives))

no-aim-other : (shed input : List ℕ) (e : RetargetEnding) → HasNoAim shed input e → e ≡ Ended Done → ⊥
no-aim-other shed input e none done =
    aim-other shed none.o.problem input (subst (λ (x : RetargetEnding). GivesAim (Err x) (aim_in shed none.o.problem input)) done none.gives)

-- ---- the one way

module _ {D : Type 0} (trace : D → DiskTrace) (migration : ℕ) (shed : List ℕ) (source source_now : SourceTrace) (disk disk_now : D) (sink sink_now : SinkTrace) where
  unwritten-other : (text : List ℕ) (why : CommandEnd) → why ≡ Done → IsUnwritten text why sink sink_now → ⊥
  unwritten-other text why same (inl cut) = absurd (cc (sym same ∙ cut.0))
  unwritten-other text why same (inr memory) = absurd (cc (sym same ∙ memory.0))

  placed-part : (kept : Kept) (there : D) (ending : RetargetEnding) → ending ≡ Ended Done → IsPlacedOrNot trace kept there disk_now ending → HasPlaced trace kept disk_now
  placed-part kept there ending done (inl well) = well.1
  placed-part kept there ending done (inr failed) = absurd (journal-other failed.0 (sym failed.1 ∙ done))

  written-part : (text : List ℕ) (kept : Kept) (there : D) (ending : RetargetEnding) → ending ≡ Ended Done → WritesAndPlaces trace text kept there disk_now ending sink sink_now
      → Appends sink.written text sink_now.written × HasPlaced trace kept disk_now
  written-part text kept there ending done (inl both) = (both.0, placed-part kept there ending done both.1.ends)
  written-part text kept there ending done (inr cut) =
      let same : cut.0 ≡ Done = cc (sym cut.1 ∙ done) in
      absurd (unwritten-other text cut.0 same cut.2)

  module _ (planner : Planner) (input : List ℕ) (read : IsShortInput source source_now input) (w : Wanted) (wanted : IsWanted shed input w) (ending : RetargetEnding) (done : ending ≡ Ended Done) where
    by_chosen : (opened there : D) (opens : Opens (trace disk) (trace opened)) (image : List ℕ) (told : IfSome (trace opened).bytes (λ all. image ≡ all)) (history : History)
        (found : found_by w.plan (verdict w.plan (digest_for w.plan migration) image) ≡ Some history) (problem : Problem) (aims : AimsFrom w.plan history w.aim problem) (chosen : Result Chosen NotFound)
        → IsChosenBy planner problem chosen → ByChosen trace migration chosen there disk_now ending sink sink_now → GoesElsewhere trace migration shed source source_now disk disk_now sink sink_now
    by_chosen opened there opens image told history found problem aims (Ok c) is ends =
        let parts = written-part (next_text c.plan) (kept_next c.plan migration) there ending done ends.writes in
        record {
          input = input;
          read = read;
          wanted = w;
          is = wanted;
          opened = opened;
          opens = opens;
          image = image;
          told = told;
          history = history;
          found = found;
          next = c.plan;
          aims = subst (λ (p : Problem). AimsFrom w.plan history w.aim p) (sym is.0) aims;
          valid = ends.valid;
          written = parts.0;
          placed = parts.1;
          safe = λ first es firsts.
              every_world_is_safe c.plan.problem c.plan.plan (no_start c.plan.problem) (migration + 1) first es ends.network ends.valid (no_start-sound c.plan.problem c.plan.plan ends.valid) firsts;
        }
    by_chosen opened there opens image told history found problem aims (Err missed) is ends = absurd (plan-other missed.problem missed.cause (sym ends.0 ∙ done))

    by_made : (opened there : D) (opens : Opens (trace disk) (trace opened)) (image : List ℕ) (told : IfSome (trace opened).bytes (λ all. image ≡ all)) (made : Result Problem Unwritten)
        → MakesBy w.plan (digest_for w.plan migration) image w.aim made → ByMade trace planner migration made there disk_now ending sink sink_now → GoesElsewhere trace migration shed source source_now disk disk_now sink sink_now
    by_made opened there opens image told (Ok problem) makes ends = by_chosen opened there opens image told makes.history makes.found problem makes.makes ends.chosen ends.is ends.ends
    by_made opened there opens image told (Err why) makes ends = absurd (problem-other why (sym ends.0 ∙ done))

    by_image : (opened there : D) (opens : Opens (trace disk) (trace opened)) (image : Result (List ℕ) JournalFault) → IfOk image (λ bytes. IfSome (trace opened).bytes (λ all. bytes ≡ all))
        → ByImage trace planner migration w image there disk_now ending sink sink_now → GoesElsewhere trace migration shed source source_now disk disk_now sink sink_now
    by_image opened there opens (Ok image) all ends = by_made opened there opens image all ends.made ends.makes ends.ends
    by_image opened there opens (Err cause) all ends = absurd (journal-other cause (sym ends.0 ∙ done))

    by_opening : OpensAndRetargets trace planner migration w disk disk_now ending sink sink_now → GoesElsewhere trace migration shed source source_now disk disk_now sink sink_now
    by_opening (inl fails) = absurd (cc (sym fails.is ∙ done))
    by_opening (inr o) = by_image o.opened o.reads.read o.opens o.reads.image o.reads.reads.all o.reads.ends

  module _ (planner : Planner) (ending : RetargetEnding) (done : ending ≡ Ended Done) where
    by_wanted : (input : List ℕ) → IsShortInput source source_now input → (wanted : Result Wanted RetargetEnding) → WantsBy shed input wanted → ByWanted trace migration planner wanted disk disk_now ending sink sink_now
        → GoesElsewhere trace migration shed source source_now disk disk_now sink sink_now
    by_wanted input read (Ok w) wants ends = by_opening planner input read w wants ending done ends
    by_wanted input read (Err e) (inl none) ends = absurd (rollout-other input e none (sym ends.0 ∙ done))
    by_wanted input read (Err e) (inr none) ends = absurd (no-aim-other shed input e none (sym ends.0 ∙ done))

    by_input : (input : Result (List ℕ) CommandEnd) → ReadsInput source input source_now → ByInput trace migration planner shed input disk disk_now ending sink sink_now
        → GoesElsewhere trace migration shed source source_now disk disk_now sink sink_now
    by_input (Ok input) reads ends = by_wanted input reads ends.wanted ends.wants ends.ends
    by_input (Err e) reads ends =
        let same : e ≡ Done = cc (sym ends.0 ∙ done) in
        absurd (subst (λ (x : CommandEnd). ReadsInput source (Err x) source_now) same reads)

  pub goes-elsewhere : (planner : Planner) (notes notes_now : SinkTrace) (status : ℕ) → RetargetPromise trace migration planner shed source source_now disk disk_now sink sink_now notes notes_now status → status ≡ 0
      → GoesElsewhere trace migration shed source source_now disk disk_now sink sink_now
  goes-elsewhere planner notes notes_now status promise zero = by_input planner promise.ending (ends-done shed promise.ending status notes notes_now promise.told zero) promise.does.input promise.does.reads promise.does.ends

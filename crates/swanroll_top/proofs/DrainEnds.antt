-- How a drain follows from its input, and how it ends.
use Rattle.std.proofs.Common.{◌≡◌, ◌<◌, ◌^◌, ℕ, List, Option, Result, Ok, Err, IfOk, IfErr, refl, sym, ◌∙◌, subst, inl, inr}
use Rattle.rollout_rules.specs.Wan.{Rollout}
use Rattle.rollout_rules.specs.Network.{IsNetwork}
use Rattle.rollout_rules.specs.declared.op.OpView.{OpView}
use Rattle.disk_model.specs.Traces.{DiskTrace}
use Rattle.intent_journal.specs.Openings.{IsLeft}
use Rattle.intent_journal.specs.declared.fault.JournalFault.{JournalFault}
use Rattle.wan_edge.specs.Ports.{PortTrace}
use Rattle.wan_edge.specs.Streams.{Rose, SourceTrace}
use Rattle.rollout_report.specs.Journals.{digest_for}
use Rattle.controller_run.specs.declared.running.Limits.{Limits}
use Rattle.controller_run.specs.RolloutEnds.{HasRolled}
use Rattle.controller_run.specs.declared.end.RunEnd.{RunEnd}
use Rattle.controller_run.specs.declared.end.RunEnd.TheVariants as run
use Rattle.controller_run.specs.declared.outcome.RunOutcome.{RunOutcome}
use Rattle.rollback_plan.specs.Levels.{levelling}
use Rattle.rollback_service.specs.Drainings.{HasDrained, HoldsAll}
use Rattle.swanroll_top.specs.Drains.{Drains, DrainsIn, DrainsOut, drained_at, drained_or_ending}
use Rattle.text_commands.specs.Reading.{IsShortInput}
use Rattle.text_commands.specs.Answers.{rollout_in}
use Rattle.swanroll_top.specs.Reports.{ReadsDocument}
use Rattle.swanroll_top.specs.Rollouts.{FleetSeen, IsDiskFault, IsUnbegun, RefusesAs, by_answer, ending_of_stop, line_at, line_or_ending}
use Rattle.text_commands.specs.Runs.{Follows, Gives, IsInput}
use Rattle.text_commands.specs.Safety.{IsValid}
use Rattle.text_commands.specs.declared.command_end.CommandEnd.{CommandEnd}
use Rattle.text_commands.specs.declared.command_end.CommandEnd.TheVariants.{DiskFault, NotFinished, OutOfMemory}
use Rattle.text_commands.specs.declared.unfinished.Unfinished.TheVariants.{PortFault}
use Rattle.swanroll_top.proofs.Outcomes.{disk-failed, given-or-memory, gives-own, same-ending, without_text}
use Rattle.swanroll_top.proofs.Reporting.{reads-document, short-rollout}
use Rattle.swanroll_top.proofs.Rolling.{never-disk, unbegun}

-- ---- by the input

module _ {D P : Type 0} (trace : D → DiskTrace) (tell : P → PortTrace)
    (limits : Limits) (disk disk_now : D) (before now : FleetSeen P) (out out_now : Option (List ℕ)) where
  pub input-drains : (source source_now : SourceTrace) (input : List ℕ) (e : CommandEnd) → IsShortInput source source_now input
      → DrainsIn trace tell (rollout_in input) limits disk disk_now before now e out out_now
      → Drains trace tell (IsInput source source_now) limits disk disk_now before now e out out_now
  input-drains source source_now input e short (inl refused) = inl (record { why = unbegun source source_now input e short refused.why; disk_is = refused.disk_is; fleet_is = refused.fleet_is })
  input-drains source source_now input e short (inr begun) = inr (record {
    input = input;
    given = short.input;
    r = begun.0;
    is = short-rollout input short.within ∙ begun.1;
    rolls = begun.2;
  })

  -- after which input a disk failed
  pub drains-behind : (source source_now : SourceTrace) (e : CommandEnd) → e ≡ DiskFault → Drains trace tell (IsInput source source_now) limits disk disk_now before now e out out_now → ReadsDocument source source_now
  drains-behind source source_now e is (inl none) =
      let why : RefusesAs (IsInput source source_now) DiskFault = subst (IsUnbegun (IsInput source source_now)) is none.why in
      absurd (never-disk why.input why.refused)
  drains-behind source source_now e is (inr roll) = reads-document source source_now roll.input roll.r roll.given roll.is

-- ---- an ending in place of a line is the one of a run

gives-same : (x e : CommandEnd) → without_text x ≡ without_text e → Gives {A = List ℕ} (Err e) (Err x)
gives-same x e is = subst (λ (y : CommandEnd). Gives {A = List ℕ} (Err y) (Err x)) (same-ending x e is) (gives-own x)

given-at : (end : RunEnd) (o : RunOutcome) (e : CommandEnd) → drained_at end o ≡ Err e → Gives {A = List ℕ} (Err e) (line_at end o)
given-at run.Finished o e is = absurd cc
given-at run.Held o e is = absurd cc
given-at (run.Stopped halt) o e is = gives-same (ending_of_stop o.plan halt.cause) e is
given-at (run.NoPort switch) o e is = gives-same (NotFinished (PortFault o.plan switch)) e is
given-at run.Memory o e is = gives-same OutOfMemory e is

pub drained-gives : (o : RunOutcome) (e : CommandEnd) → Gives {A = List ℕ} (Err e) (drained_or_ending o) → Gives {A = List ℕ} (Err e) (line_or_ending o)
drained-gives o e h = elim (given-or-memory (drained_or_ending o) e h) as (λ _. Gives {A = List ℕ} (Err e) (line_or_ending o)) [
  | inl is ↦ given-at o.end o e is
  | inr memory ↦ subst (λ (x : CommandEnd). Gives {A = List ℕ} (Err x) (line_or_ending o)) (sym memory) tt
]

-- ---- a drain by its answer

module _ {D P : Type 0} (trace : D → DiskTrace) (tell : P → PortTrace) (r : Rollout) (limits : Limits) (disk disk_now : D) (before now : FleetSeen P) where
  abbrev Drained : RunOutcome → Type 0
  Drained o = HasDrained trace tell r (digest_for r limits.migration) limits.rounds disk before.ports now.ports disk_now o

  abbrev RolledBy : (OpView → ℕ) → RunOutcome → Type 0
  RolledBy policy o = HasRolled trace tell r (digest_for r limits.migration) policy limits.rounds disk before.ports now.ports disk_now o

  -- what it was run under; where no journal was opened, any policy that holds all back
  rolled-under : (a : Result RunOutcome JournalFault) → IfOk a Drained → (policy : OpView → ℕ) × HoldsAll policy × IfOk a (RolledBy policy)
  rolled-under (Ok o) has = (has.policy, has.holds, has.rolled)
  rolled-under (Err why) has = (levelling 0, λ view small. refl, tt)

  pub drained-out : IsNetwork r.problem → IsValid r.problem r.plan → limits.migration < 2 ^ 32 → (a : Result RunOutcome JournalFault) (e : CommandEnd) (out out_now : Option (List ℕ))
      → IfOk a Drained → IfErr a (λ why. IsLeft trace r (digest_for r limits.migration) disk why disk_now × (now ≡ before))
      → IfOk a (λ o. (switch : ℕ) → o.end ≡ run.NoPort switch → Rose before.faults now.faults) → Follows (by_answer drained_or_ending a) e out out_now
      → DrainsOut trace tell r limits disk disk_now before now e out out_now
  drained-out network valid small a e out out_now drained unopened no_port follows =
      let under = rolled-under a drained in
      record {
        network = network;
        valid = valid;
        small = small;
        policy = under.0;
        holds = under.1;
        answer = a;
        rolled = under.2;
        unopened = unopened;
        no_port = no_port;
        follows = follows;
      }

  pub drained-failed : (o : RunOutcome) → IsDiskFault o.end → Drained o → Rose (trace disk).faults (trace disk_now).faults
  drained-failed o is drained = disk-failed trace tell r (digest_for r limits.migration) drained.policy limits.rounds disk disk_now before.ports now.ports o is drained.rolled

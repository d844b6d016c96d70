-- What status 0 of `retarget` says: from where the rollout stands another one goes on.
use Rattle.std.specs.Prelude.{◌≡◌, ◌+◌, ℕ, List, Some, IfSome, IsTrue}
use Rattle.rollout_rules.specs.Wan.{Problem, Plan, Rollout}
use Rattle.rollout_rules.specs.History.{History, no_start}
use Rattle.rollout_rules.specs.World.{are_first_pairs, first_world}
use Rattle.rollout_rules.specs.declared.event.Event.{Event}
use Rattle.rollout_rules.specs.declared.held.Held.{Held}
use Rattle.rollout_laws.specs.SafeWorlds.{EveryWorldIsSafe}
use Rattle.disk_model.specs.Traces.{DiskTrace}
use Rattle.disk_mirror.specs.Openings.{Opens}
use Rattle.intent_journal.specs.Openings.{found_by}
use Rattle.intent_journal.specs.Verdicts.{verdict}
use Rattle.rollout_report.specs.Journals.{digest_for}
use Rattle.retarget_service.specs.Aimed.{AimsFrom}
use Rattle.rollback_service.specs.Placings.{HasPlaced}
use Rattle.wan_edge.specs.Streams.{Appends, SinkTrace, SourceTrace}
use Rattle.text_commands.specs.Reading.{IsShortInput}
use Rattle.text_commands.specs.Safety.{IsValid}
use Rattle.retarget_top.specs.Aims.{IsWanted}
use Rattle.retarget_top.specs.Retargets.{kept_next, next_text}
use Rattle.retarget_top.specs.declared.ending.Wanted.{Wanted}

-- whatever happens in a rollout that begins with pairs of earlier migrations, every world on the way is safe
abbrev pub IsSafeFrom : Problem → Plan → ℕ → Type 0
IsSafeFrom p plan migration = (first : List Held) (es : List Event) → IsTrue (are_first_pairs p (no_start p) migration first) → EveryWorldIsSafe p plan (first_world p plan (no_start p) migration first) es

-- The journal's bytes, as the disk told them once it was opened, stand for a history of the rollout. From there the problem of the aim was made, whose old split is what is settled; a valid plan of it was chosen, its document written whole, and a journal of it placed, as the next migration, in which nothing is settled. Every rollout of it is safe.
pub record GoesElsewhere {D : Type 0} (trace : D → DiskTrace) (migration : ℕ) (shed : List ℕ) (source source_now : SourceTrace) (disk disk_now : D) (sink sink_now : SinkTrace) : Type 0 where
  pub input : List ℕ
  pub read : IsShortInput source source_now input
  pub wanted : Wanted
  pub is : IsWanted shed input wanted
  pub opened : D
  pub opens : Opens (trace disk) (trace opened)
  pub image : List ℕ
  pub told : IfSome (trace opened).bytes (λ all. image ≡ all)
  pub history : History
  pub found : found_by wanted.plan (verdict wanted.plan (digest_for wanted.plan migration) image) ≡ Some history
  pub next : Rollout
  pub aims : AimsFrom wanted.plan history wanted.aim next.problem
  pub valid : IsValid next.problem next.plan
  pub written : Appends sink.written (next_text next) sink_now.written
  pub placed : HasPlaced trace (kept_next next migration) disk_now
  pub safe : IsSafeFrom next.problem next.plan (migration + 1)

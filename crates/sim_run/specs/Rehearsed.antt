-- What is known of a rehearsal over a valid plan, whatever the policy.
use Rattle.std.specs.Prelude.{◌≡◌, ℕ, ◌*◌, ◌<◌, ◌≤◌, List, [], ◌∷◌, ◌++◌, length, if◌then◌else◌}
use Rattle.rollout_rules.specs.Wan.{Problem, Plan, link_at, switch_at}
use Rattle.rollout_rules.specs.World.{World, new_world, after_events}
use Rattle.rollout_rules.specs.declared.op.OpView.{OpView}
use Rattle.rollout_rules.specs.declared.event.Event.{Event}
use Rattle.rollout_rules.specs.declared.event.Act.{Act}
use Rattle.rollout_rules.specs.Legal.{unsettled}
use Rattle.rollout_laws.specs.SafeWorlds.{EveryWorldIsSafe, NetworkAtTarget}
use Rattle.rollout_report.specs.Peaks.{link_peak, table_peak}
use Rattle.sim_run.specs.Acts.{Rehearsal, first_rehearsal, can_happen, events_of, after_act, after_acts}

-- the events of a script, act by act; an act that can't happen has none
abbrev pub schedule_of : Problem → Plan → (OpView → ℕ) → Rehearsal → List Act → List Event
schedule_of p plan policy r [] = []
schedule_of p plan policy r (a ∷ rest) = (if can_happen p r a then events_of p plan policy r a else []) ++ schedule_of p plan policy (after_act p plan policy r a) rest

-- the world that a script leads to
abbrev pub world_after : Problem → Plan → (OpView → ℕ) → List Act → World
world_after p plan policy script = (after_acts p plan policy (first_rehearsal p plan) script).world

-- The worlds of a script are those of its schedule, on which every world is safe, inside the acts too. No peak is above its
-- capacity or size. Where nothing is left unsettled the switches hold the new split.
pub record IsSafeRehearsal (p : Problem) (plan : Plan) (policy : OpView → ℕ) (script : List Act) : Type 0 where
  pub worlds : (acts rest : List Act) → acts ++ rest ≡ script → world_after p plan policy acts ≡ after_events p plan (new_world p plan) (schedule_of p plan policy (first_rehearsal p plan) acts)
  pub safe : EveryWorldIsSafe p plan (new_world p plan) (schedule_of p plan policy (first_rehearsal p plan) script)
  pub links : (l : ℕ) → l < length p.links → link_peak p plan (world_after p plan policy script).durable l ≤ (link_at p l).capacity * plan.scale
  pub tables : (w : ℕ) → w < length p.switches → table_peak p plan (world_after p plan policy script).durable w ≤ (switch_at p w).table
  pub finished : unsettled p plan (world_after p plan policy script).durable ≡ 0 → NetworkAtTarget p plan (world_after p plan policy script)

-- Plans by name.
use Rattle.std.specs.Prelude.{[], ◌∷◌, map, is_some}
use Rattle.rollout_rules.specs.Wan.{Problem, Plan, Stage, old_rate, new_rate}

-- the old split, and the new one
abbrev pub old_stage : Problem → Stage
old_stage p = record { rates = map old_rate p.tunnels; installed = map (λ t. is_some t.old) p.tunnels }

abbrev pub new_stage : Problem → Stage
new_stage p = record { rates = map new_rate p.tunnels; installed = map (λ t. is_some t.new) p.tunnels }

-- the plan of one step, at scale 1
abbrev pub direct_plan : Problem → Plan
direct_plan p = record { scale = 1; stages = old_stage p ∷ new_stage p ∷ [] }

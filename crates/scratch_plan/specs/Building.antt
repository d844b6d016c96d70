-- A plan as far as it is built.
use Rattle.std.specs.Prelude.{ℕ, ◌*◌, List, ◌∷◌, ◌++◌, map, unwrap_or}
use Rattle.rollout_rules.specs.Wan.{Problem, Plan, Stage}
use Rattle.wan_model.specs.declared.side.Side.{Side}
use Rattle.wan_model.specs.Sides.{rate_on}
use Rattle.scratch_plan.specs.Marks.{was_there, is_used, is_kept, is_idle, is_fresh}
use Rattle.scratch_plan.specs.Frame.{stage_of, where_any, old_row}

-- scale times the rates of a split
abbrev pub row_on : Side → Problem → ℕ → List ℕ
row_on side p scale = map (λ t. scale * unwrap_or (rate_on side t) 0) p.tunnels

-- further stages after those of a plan
abbrev pub with_stages : Plan → List Stage → Plan
with_stages plan more = record plan { stages = plan.stages ++ more }

-- the stages before rates move
abbrev pub begun : Problem → ℕ → Plan
begun p scale = record {
  scale = scale;
  stages =
      stage_of p (old_row p scale) was_there
      ∷ (where_any is_idle p (stage_of p (old_row p scale) is_kept)
      ++ where_any is_fresh p (stage_of p (old_row p scale) is_used));
}

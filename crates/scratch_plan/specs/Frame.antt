-- The frame of a plan: in which order tunnels go, come, and move their rates.
use Rattle.std.specs.Prelude.{ℕ, ◌*◌, Bool, List, [], ◌∷◌, ◌++◌, map, length, ◌==◌, if◌then◌else◌}
use Rattle.std.specs.List.{list_any}
use Rattle.rollout_rules.specs.Sums.{all_below}
use Rattle.rollout_rules.specs.Wan.{Problem, Plan, Stage, Tunnel, tunnel_at, old_rate, new_rate}
use Rattle.scratch_plan.specs.Marks.{was_there, is_wanted, is_used, is_kept, is_idle, is_fresh, is_left}

-- a stage with these rates at which the tunnels that pass a test are installed
abbrev pub stage_of : Problem → List ℕ → (Tunnel → Bool) → Stage
stage_of p row test = record { rates = row; installed = map test p.tunnels }

-- a stage where some tunnel asks for it, else none
abbrev pub where_any : (Tunnel → Bool) → Problem → Stage → List Stage
where_any test p stage = if list_any test p.tunnels then stage ∷ [] else []

-- scale times the rates of the old split, and of the new one
abbrev pub old_row : Problem → ℕ → List ℕ
old_row p scale = map (λ t. scale * old_rate t) p.tunnels

abbrev pub new_row : Problem → ℕ → List ℕ
new_row p scale = map (λ t. scale * new_rate t) p.tunnels

-- The stages with the rates after each rate step: the old split; idle tunnels that are not wanted go; new ones come; rates move while
-- what is wanted or carrying is installed; tunnels that carried and are not wanted go.
abbrev pub stages_over : Problem → ℕ → List (List ℕ) → List Stage
stages_over p scale rows =
    stage_of p (old_row p scale) was_there
    ∷ (where_any is_idle p (stage_of p (old_row p scale) is_kept)
    ++ (where_any is_fresh p (stage_of p (old_row p scale) is_used)
    ++ (map (λ row. stage_of p row is_used) rows
    ++ where_any is_left p (stage_of p (new_row p scale) is_wanted))))

abbrev pub plan_over : Problem → ℕ → List (List ℕ) → Plan
plan_over p scale rows = record { scale = scale; stages = stages_over p scale rows }

-- the frame over the rates between: as many rate steps as these rows and one, the last to the new split
abbrev pub frame : Problem → ℕ → List (List ℕ) → Plan
frame p scale between = plan_over p scale (between ++ new_row p scale ∷ [])

-- whether every tunnel has its old rate in the new split
abbrev pub has_equal_rates : Problem → Bool
has_equal_rates p = all_below (length p.tunnels) (λ t. old_rate (tunnel_at p t) == new_rate (tunnel_at p t))

-- the frame without a rate step, for equal rates
abbrev pub still : Problem → Plan
still p = plan_over p 1 []

-- Sums stage by stage: what is taken of each link, or of each table, at a stage and at most in the step from it on.
use Rattle.std.specs.Prelude.{◌≡◌, ℕ, ◌+◌, ◌<◌, ◌≤◌, max, min, Bool, true, ◌&&◌, ◌||◌, List, [], length, slice_index, slice_index_or, ◌==◌, if◌then◌else◌}
use Rattle.rollout_rules.specs.Sums.{sum_below, list_below}
use Rattle.rollout_rules.specs.Wan.{Problem, Plan, rate_at, mark_at, hops, switch_of, width_of, last_stage}
use Rattle.rollout_rules.specs.Items.{load, entries_at}
use Rattle.rollout_rules.specs.Network.{IsNetwork}
use Rattle.rollout_rules.specs.Valid.{is_valid_plan}
use Rattle.wan_model.specs.Shaped.{IsShaped}

-- a network with a plan that is valid for it
pub record IsChecked (p : Problem) (plan : Plan) : Type 0 where
  pub network : IsNetwork p
  pub valid : is_valid_plan p plan ≡ true
  pub shape : IsShaped p plan

-- the larger rate of a tunnel at two stages, and whether it is installed at either
abbrev pub larger_at : Plan → ℕ → ℕ → ℕ → ℕ
larger_at plan here next t = max (rate_at plan here t) (rate_at plan next t)

abbrev pub either_at : Plan → ℕ → ℕ → ℕ → Bool
either_at plan here next t = mark_at plan here t || mark_at plan next t

-- what tunnel t takes of the table of switch w, where it is installed
abbrev pub entry_share : Problem → (ℕ → Bool) → ℕ → ℕ → ℕ
entry_share p there t w = sum_below (hops p t) (λ h. if (switch_of p t h == w) && there t then width_of p t else 0)

-- the stage that is so far ahead of another, or the last
abbrev pub ahead_of : Plan → ℕ → ℕ → ℕ
ahead_of plan ahead s = min (s + ahead) (last_stage plan)

-- By stage what is taken of each link, and of each table, at the stage or at the one so far ahead: with 0 what is taken at the
-- stage, with 1 what may be taken in the step from there on.
abbrev pub link_rows : Problem → Plan → ℕ → List (List ℕ)
link_rows p plan ahead = list_below (length plan.stages) (λ s. list_below (length p.links) (load p (larger_at plan s (ahead_of plan ahead s))))

abbrev pub table_rows : Problem → Plan → ℕ → List (List ℕ)
table_rows p plan ahead = list_below (length plan.stages) (λ s. list_below (length p.switches) (entries_at p (λ t h. either_at plan s (ahead_of plan ahead s) t)))

-- a number by its row and its place there
abbrev pub cell : List (List ℕ) → ℕ → ℕ → ℕ
cell rows place s = slice_index (slice_index_or rows s []) place

-- there are so many rows, and each of them has a number at a place
pub record AreLong (rows : List (List ℕ)) (stages place : ℕ) : Type 0 where
  pub count : stages ≤ length rows
  pub each : (s : ℕ) → s < stages → place < length (slice_index_or rows s [])

-- Shedding: what is settled, but for what crosses a link, which carries nothing more.
use Rattle.std.specs.Prelude.{◌≡◌, ℕ, ◌<◌, ◌≤◌, [], ◌∷◌, length, is_some, Option, option_map, if◌then◌else◌}
use Rattle.rollout_rules.specs.Sums.{list_below}
use Rattle.rollout_rules.specs.Wan.{Problem, Plan, Stage, tunnel_at, old_rate, new_rate, crosses}
use Rattle.wan_model.specs.Rates.{with_rates}

-- the old rate of tunnel t, or 0 where it crosses the link
abbrev pub shed_rate : Problem → ℕ → ℕ → Option ℕ
shed_rate q l t = option_map (λ n. if crosses q t l then 0 else n) (tunnel_at q t).old

-- the old split as the new one, but for what crosses the link
abbrev pub shed : Problem → ℕ → Problem
shed q l = with_rates q (list_below (length q.tunnels) (λ t. (tunnel_at q t).old)) (list_below (length q.tunnels) (shed_rate q l))

-- no tunnel gains a rate, and none comes or goes
pub record OnlyGivesWay (q : Problem) : Type 0 where
  pub rates : (t : ℕ) → t < length q.tunnels → new_rate (tunnel_at q t) ≤ old_rate (tunnel_at q t)
  pub marks : (t : ℕ) → t < length q.tunnels → is_some (tunnel_at q t).new ≡ is_some (tunnel_at q t).old

-- the plan of one step from the old split to the new one
abbrev pub old_stage : Problem → Stage
old_stage q = record {
  rates = list_below (length q.tunnels) (λ t. old_rate (tunnel_at q t));
  installed = list_below (length q.tunnels) (λ t. is_some (tunnel_at q t).old);
}

abbrev pub new_stage : Problem → Stage
new_stage q = record {
  rates = list_below (length q.tunnels) (λ t. new_rate (tunnel_at q t));
  installed = list_below (length q.tunnels) (λ t. is_some (tunnel_at q t).new);
}

abbrev pub one_step : Problem → Plan
one_step q = record { scale = 1; stages = old_stage q ∷ new_stage q ∷ [] }

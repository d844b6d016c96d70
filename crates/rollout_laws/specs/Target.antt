-- Where a rollout ends.
use Rattle.std.specs.Prelude.{ℕ, ◌*◌, List, [], ◌∷◌, is_some, if◌then◌else◌}
use Rattle.rollout_rules.specs.Sums.{list_below}
use Rattle.rollout_rules.specs.Wan.{Problem, Plan, flow_at, tunnel_at, tunnel_of, new_rate}
use Rattle.rollout_rules.specs.declared.item.Item.{Item}
use Rattle.rollout_rules.specs.declared.item.Item.TheVariants as item

-- the content of an item in the new split: its tunnels' new rates in units of 1/scale, or whether the tunnel is installed
abbrev pub target : Problem → Plan → Item → List ℕ
target p plan (item.Flow f) = list_below (flow_at p f).tunnels (λ j. plan.scale * new_rate (tunnel_at p (tunnel_of p f j)))
target p plan (item.Entry t h) = (if is_some (tunnel_at p t).new then 1 else 0) ∷ []

-- What an operation needs, one by one: that another item stands at or past a stage.
use Rattle.std.specs.Prelude.{ℕ, ◌+◌, Bool, List, [], ◌∷◌, ◌==◌, nat_le, if◌then◌else◌}
use Rattle.std.specs.List.{flat_map}
use Rattle.rollout_rules.specs.Sums.{list_below}
use Rattle.rollout_rules.specs.Wan.{Problem, Plan, flow_at, tunnel_at, tunnel_of, hops, rate_at, mark_at}
use Rattle.rollout_rules.specs.History.{Places, stand}
use Rattle.rollout_rules.specs.Needs.{installed_since, idle_since}
use Rattle.rollout_rules.specs.declared.item.Item.{Item}
use Rattle.rollout_rules.specs.declared.item.Item.TheVariants as item

pub record Need : Type 0 where
  pub other : Item
  pub stage : ℕ

-- the entries of tunnel t, each at a stage
abbrev pub entry_need : ℕ → ℕ → ℕ → Need
entry_need t s h = record { other = item.Entry t h; stage = s }

abbrev pub entry_needs : Problem → ℕ → ℕ → List Need
entry_needs p t s = list_below (hops p t) (entry_need t s)

-- those of a flow on its way to stage s by tunnel t: where that carries it there, its entries, at the first stage of the run at which it is installed
abbrev pub carrier_needs : Problem → Plan → ℕ → ℕ → List Need
carrier_needs p plan s t = if rate_at plan s t == 0 then [] else entry_needs p t (installed_since plan t s)

-- the flow of tunnel t, where that carries nothing any more at stage s: at the first stage of the run at which it carries nothing
abbrev pub flow_need : Problem → Plan → ℕ → ℕ → Need
flow_need p plan t s = record { other = item.Flow (tunnel_at p t).flow; stage = idle_since plan t s }

-- The needs of the operation that takes an item from stage s to s + 1: a flow's are those of each tunnel, the removal of an
-- entry needs that its flow has left the tunnel, and an installation needs nothing.
abbrev pub needs_of : Problem → Plan → Item → ℕ → List Need
needs_of p plan (item.Flow f) s = flat_map (carrier_needs p plan (s + 1)) (list_below (flow_at p f).tunnels (tunnel_of p f))
needs_of p plan (item.Entry t h) s = if mark_at plan (s + 1) t then [] else flow_need p plan t s ∷ []

-- whether an item stands where a need has it
abbrev pub is_met : Problem → Plan → Places → Need → Bool
is_met p plan at need = nat_le need.stage (stand p plan at need.other)

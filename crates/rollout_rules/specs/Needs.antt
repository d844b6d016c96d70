-- What an operation needs before it may begin (the edges of Dionysus' dependency graph).
use Rattle.std.specs.Prelude.{ℕ, ◌+◌, Bool, ◌||◌, ◌==◌, nat_le}
use Rattle.rollout_rules.specs.Sums.{all_below}
use Rattle.rollout_rules.specs.Wan.{Problem, Plan, flow_at, tunnel_at, tunnel_of, hops, rate_at, mark_at}
use Rattle.rollout_rules.specs.Operations.{run_start}
use Rattle.rollout_rules.specs.History.{Places, stand}
use Rattle.rollout_rules.specs.declared.item.Item.{Item}
use Rattle.rollout_rules.specs.declared.item.Item.TheVariants as item

-- the first stage of the run of stages at which tunnel t is installed, around stage s
abbrev pub installed_since : Plan → ℕ → ℕ → ℕ
installed_since plan t s = run_start (λ u. mark_at plan u t) s

-- the first stage of the run of stages at which tunnel t carries nothing, around stage s
abbrev pub idle_since : Plan → ℕ → ℕ → ℕ
idle_since plan t s = run_start (λ u. rate_at plan u t == 0) s

-- whether each entry of tunnel t stands at or past a stage
abbrev pub entries_past : Problem → Plan → Places → ℕ → ℕ → Bool
entries_past p plan at t s = all_below (hops p t) (λ h. nat_le s (stand p plan at (item.Entry t h)))

-- The needs of the operation that takes an item from stage s to s + 1: a flow needs the entries of each tunnel that
-- carries it at s + 1; the removal of an entry needs that its flow has left the tunnel; an installation needs nothing.
abbrev pub needs_met_at : Problem → Plan → Places → Item → ℕ → Bool
needs_met_at p plan at (item.Flow f) s = all_below (flow_at p f).tunnels (λ j.
    (rate_at plan (s + 1) (tunnel_of p f j) == 0)
    || entries_past p plan at (tunnel_of p f j) (installed_since plan (tunnel_of p f j) (s + 1)))
needs_met_at p plan at (item.Entry t h) s =
    mark_at plan (s + 1) t || nat_le (idle_since plan t s) (stand p plan at (item.Flow (tunnel_at p t).flow))

-- the needs of an item's next operation
abbrev pub needs_met : Problem → Plan → Places → Item → Bool
needs_met p plan at i = needs_met_at p plan at i (stand p plan at i)

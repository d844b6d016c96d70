-- A problem that goes on from where a rollout stands, and what that says of every rollout of it.
use Rattle.std.specs.Prelude.{◌≡◌, ℕ, ◌*◌, ◌<◌, ◌≤◌, None, length, is_some}
use Rattle.rollout_rules.specs.Wan.{Problem, Plan, Tunnel, link_at, switch_at, tunnel_at, hops, old_rate, rate_at, mark_at}
use Rattle.rollout_rules.specs.Items.{entries_at}
use Rattle.rollout_rules.specs.Slack.{old_load, was_installed}
use Rattle.rollout_rules.specs.History.{Places}
use Rattle.rollout_rules.specs.Safe.{settled_rate, settled_mark}

-- a tunnel without its rates
abbrev pub unrated : Tunnel → Tunnel
unrated t = record t { old = None; new = None }

-- The same switches, flows and tunnels by the same numbers. The old split is what is settled: so many units of 1/scale make one of its own, in which the capacities are no less.
pub record GoesOnFrom (p : Problem) (plan : Plan) (at : Places) (divisor : ℕ) (q : Problem) : Type 0 where
  pub some : 0 < divisor
  pub switches : q.switches ≡ p.switches
  pub flows : q.flows ≡ p.flows
  pub tunnels : length q.tunnels ≡ length p.tunnels
  pub alike : (t : ℕ) → t < length p.tunnels → unrated (tunnel_at q t) ≡ unrated (tunnel_at p t)
  pub links : length q.links ≡ length p.links
  pub capacities : (l : ℕ) → l < length p.links → divisor * (link_at q l).capacity ≡ (link_at p l).capacity * plan.scale
  pub rates : (t : ℕ) → t < length p.tunnels → divisor * old_rate (tunnel_at q t) ≡ settled_rate p plan at t
  pub marks : (t h : ℕ) → t < length p.tunnels → h < hops p t → is_some (tunnel_at q t).old ≡ settled_mark p plan at t h

-- no link carries more in the old split than its capacity, and no table holds more
pub record OldSideFits (q : Problem) : Type 0 where
  pub links : (l : ℕ) → l < length q.links → old_load q l ≤ (link_at q l).capacity
  pub tables : (w : ℕ) → w < length q.switches → entries_at q (was_installed q) w ≤ (switch_at q w).table

-- A plan begins with what is settled: each rate in its own units, and each entry.
pub record BeginsWithSettled (p : Problem) (plan : Plan) (at : Places) (divisor : ℕ) (on : Plan) : Type 0 where
  pub rates : (t : ℕ) → t < length p.tunnels → divisor * rate_at on 0 t ≡ on.scale * settled_rate p plan at t
  pub marks : (t h : ℕ) → t < length p.tunnels → h < hops p t → mark_at on 0 t ≡ settled_mark p plan at t h

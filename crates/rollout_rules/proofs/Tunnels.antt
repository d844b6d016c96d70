-- Which tunnels a flow has: those in its row, and each belongs to it.
use Rattle.std.proofs.Common.{◌≡◌, ℕ, suc, ◌-◌, ◌<◌, length, inl, inr, arith}
use Rattle.std.proofs.lemmas.Bool.{cases_order}
use Rattle.rollout_rules.specs.Wan.{Problem, flow_at, tunnel_at, tunnel_of}
use Rattle.rollout_rules.specs.Network.{IsNetwork}
use Rattle.rollout_rules.proofs.Below.{sum_below-up}

-- how many tunnels a flow has
abbrev pub tunnels_of : Problem → ℕ → ℕ
tunnels_of p f = (flow_at p f).tunnels

pub tunnel_of-below : (p : Problem) (f j : ℕ) → IsNetwork p → f < length p.flows → j < tunnels_of p f → tunnel_of p f j < length p.tunnels
tunnel_of-below p f j net lt few = omega (arith, net.flows.in_order f lt, net.flows.all, sum_below-up (suc f) (length p.flows) (tunnels_of p) lt)

pub flow-tunnel_of : (p : Problem) (f j : ℕ) → IsNetwork p → f < length p.flows → j < tunnels_of p f → (tunnel_at p (tunnel_of p f j)).flow ≡ f
flow-tunnel_of p f j net lt few =
    let t = tunnel_of p f j in
    let row = net.tunnels t (tunnel_of-below p f j net lt few) in
    elim (cases_order (tunnel_at p t).flow f) as (λ c. (tunnel_at p t).flow ≡ f) [
      | inl e ↦ e
      | inr (inl less) ↦ absurd (omega (arith, row.ahead, net.flows.in_order f lt, net.flows.in_order (tunnel_at p t).flow row.flow, sum_below-up (suc (tunnel_at p t).flow) f (tunnels_of p) less))
      | inr (inr more) ↦ absurd (omega (arith, row.behind, net.flows.in_order f lt, net.flows.in_order (tunnel_at p t).flow row.flow, sum_below-up (suc f) (tunnel_at p t).flow (tunnels_of p) more))
    ]

-- the place of a tunnel in the row of its flow
abbrev pub place_of : Problem → ℕ → ℕ
place_of p t = t - (flow_at p (tunnel_at p t).flow).first

pub place_of-below : (p : Problem) (t : ℕ) → IsNetwork p → t < length p.tunnels → place_of p t < tunnels_of p (tunnel_at p t).flow
place_of-below p t net lt = omega (arith, (net.tunnels t lt).behind, (net.tunnels t lt).ahead)

pub tunnel_of-place_of : (p : Problem) (t : ℕ) → IsNetwork p → t < length p.tunnels → tunnel_of p (tunnel_at p t).flow (place_of p t) ≡ t
tunnel_of-place_of p t net lt = omega (arith, (net.tunnels t lt).behind)

-- The old split and the new one by the same words.
use Rattle.std.specs.Prelude.{ℕ, Option, unwrap_or}
use Rattle.rollout_rules.specs.Wan.{Problem, Tunnel, tunnel_at}
use Rattle.rollout_rules.specs.Valid.{flow_total}
use Rattle.wan_model.specs.declared.side.Side.{Side}
use Rattle.wan_model.specs.declared.side.Side.TheVariants.{Old, New}

-- the rate of a tunnel in a split, where it is installed there
abbrev pub rate_on : Side → Tunnel → Option ℕ
rate_on Old t = t.old
rate_on New t = t.new

-- the sum of a flow's rates in a split
abbrev pub total_on : Side → Problem → ℕ → ℕ
total_on side p f = flow_total p (λ t. unwrap_or (rate_on side (tunnel_at p t)) 0) f

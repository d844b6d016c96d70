-- By how many tunnels a problem's last flow has grown.
use Rattle.std.specs.Prelude.{◌≡◌, ℕ, ◌+◌, length}
use Rattle.rollout_rules.specs.Wan.{Problem, flow_at}
use Rattle.rollout_rules.specs.Building.{last_flow}

abbrev pub tunnels_of_last : Problem → ℕ
tunnels_of_last p = (flow_at p (last_flow p)).tunnels

pub record HasMoreTunnels (p q : Problem) (n : ℕ) : Type 0 where
  pub flows : length q.flows ≡ length p.flows
  pub tunnels : length q.tunnels ≡ length p.tunnels + n
  pub of_last : tunnels_of_last q ≡ tunnels_of_last p + n

use Rattle.std.proofs.Common.{◌≡◌, ℕ, ◌<◌, length, get_or}
use Rattle.rollout_rules.specs.Wan.{tunnel_at}
use Rattle.rollout_report.specs.Peaks.{larger_rate, front}
use Rattle.rollout_report.specs.Loads.{AreSums}
use Rattle.rollout_report.proofs.loads.first_loads.Given as goal

-- the tunnels of the flows before this one have their first rates
abbrev pub invariant-loop-flow : goal.invariant-loop-flow
invariant-loop-flow l = record {
  sums : AreSums l.plan.problem l.rates l.sums;
  rates : (t : ℕ) → t < length l.plan.problem.tunnels → (tunnel_at l.plan.problem t).flow < l.flow → get_or l.rates t 0 ≡ larger_rate l.plan.problem l.plan.plan (front l.history 0) t;
}

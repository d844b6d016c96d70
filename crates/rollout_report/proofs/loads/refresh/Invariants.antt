use Rattle.rollout_report.specs.Loads.{AreSums}
use Rattle.rollout_report.proofs.Refreshing.{ArePartly}
use Rattle.rollout_report.proofs.loads.refresh.Given as goal

-- the tunnels before this one have their rates, and the sums are those of all rates
abbrev pub invariant-loop-place : goal.invariant-loop-place
invariant-loop-place l = record {
  sums : AreSums l.plan.problem l.rates l.sums;
  rates : ArePartly l.plan.problem l.plan.plan l.flow l.here l.next l.fn.rates l.place l.rates;
}

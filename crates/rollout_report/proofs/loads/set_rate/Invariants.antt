use Rattle.rollout_report.proofs.Adding.{IsPartly}
use Rattle.rollout_report.proofs.loads.set_rate.Given as goal

-- the links before this one have the new rate in their sums, the others the old
abbrev pub invariant-loop-link : goal.invariant-loop-link
invariant-loop-link l = IsPartly l.plan.problem l.rates l.links l.carried l.rate l.sums l.link-index

use Rattle.std.proofs.Common.{◌≡◌, ◌<◌, length, IfSome}
use Rattle.rollout_rules.specs.Sums.{list_below}
use Rattle.rollout_rules.specs.History.{History}
use Rattle.rollout_report.specs.Peaks.{link_peak}
use Rattle.sim_run.specs.TrialText.{fullest}
use Rattle.sim_run.proofs.outcome.fullest.Given as goal

-- the fullest of the links before this one
abbrev pub invariant-loop-link : goal.invariant-loop-link
invariant-loop-link l = record {
  is : (h : History) → l.peaks ≡ list_below (length l.plan.problem.links) (link_peak l.plan.problem l.plan.plan h) → l.found ≡ fullest l.plan.problem l.plan.plan h l.link;
  inside : IfSome l.found (λ best. best < length l.peaks);
}

use Rattle.std.proofs.Common.{◌≡◌, true}
use Rattle.rollout_rules.specs.Sums.{all_below}
use Rattle.plan_check.specs.LeastSlack.{has_slack_at}
use Rattle.plan_check.proofs.slack.all_have_slack.Given as goal

abbrev pub invariant-loop-l : goal.invariant-loop-l
invariant-loop-l l = all_below l.l (has_slack_at l.problem l.k) ≡ true

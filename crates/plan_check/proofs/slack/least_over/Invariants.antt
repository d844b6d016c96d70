use Rattle.std.proofs.Common.{◌≡◌, ◌≤◌, None}
use Rattle.plan_check.specs.First.{first_below}
use Rattle.plan_check.specs.LeastSlack.{slack_of}
use Rattle.plan_check.proofs.slack.least_over.Given as goal

abbrev pub invariant-loop-k : goal.invariant-loop-k
invariant-loop-k l = record {
  least : 2 ≤ l.k;
  none : first_below l.k (slack_of l.problem) ≡ None;
}

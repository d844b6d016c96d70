use Rattle.std.proofs.Common.{◌≡◌, ◌-◌, ◌*◌, ◌≤◌, get_or}
use Rattle.rollout_rules.specs.Sums.{sum_below}
use Rattle.rollout_rules.specs.Items.{item_at}
use Rattle.rollout_rules.specs.Operations.{operations}
use Rattle.rollout_report.proofs.pass.Pass.left.Given as goal

abbrev pub invariant-loop-number : goal.invariant-loop-number
invariant-loop-number l = record {
  sum : l.left ≡ sum_below l.number (λ n. operations l.plan.problem l.plan.plan (item_at l.plan.problem n) - get_or l.self.course.counts.settled n 0);
  most : l.left ≤ 4294967295 * l.number;
}

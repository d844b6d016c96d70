use Rattle.std.proofs.Common.{◌≡◌, ◌≤◌, ◌*◌}
use Rattle.rollout_rules.specs.Sums.{sum_below}
use Rattle.rollout_rules.specs.Items.{item_at}
use Rattle.rollout_rules.specs.Operations.{operations}
use Rattle.plan_texts.proofs.explaining.op_count.Given as goal

abbrev pub invariant-loop-number : goal.invariant-loop-number
invariant-loop-number l = record {
  total : l.count ≡ sum_below l.number (λ n. operations l.index.problem l.index.plan (item_at l.index.problem n));
  small : l.count ≤ l.number * 4294967295;
}

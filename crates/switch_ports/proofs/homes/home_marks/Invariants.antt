use Rattle.std.proofs.Common.{◌≡◌, ℕ, ◌<◌, false, get_or, length}
use Rattle.rollout_rules.specs.Items.{item_at}
use Rattle.switch_ports.specs.Homes.{some_below, works_at}
use Rattle.switch_ports.proofs.homes.home_marks.Given as goal

abbrev pub invariant-loop-item : goal.invariant-loop-item
invariant-loop-item l = record {
  count : length l.marks.items ≡ length l.plan.problem.switches;
  each : (w : ℕ) → w < length l.plan.problem.switches → get_or l.marks.items w false ≡ some_below l.item-index (λ n. works_at l.plan.problem l.plan.plan w (item_at l.plan.problem n));
}

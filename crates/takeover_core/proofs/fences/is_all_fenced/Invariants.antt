use Rattle.std.proofs.Common.{◌≡◌, ◌==◌, ◌||◌, true}
use Rattle.rollout_rules.specs.Sums.{all_below}
use Rattle.rollout_rules.specs.Items.{item_at}
use Rattle.rollout_rules.specs.Operations.{operations}
use Rattle.takeover_rules.specs.Takeovers.{is_fenced}
use Rattle.takeover_core.proofs.fences.is_all_fenced.Given as goal

abbrev pub invariant-loop-item : goal.invariant-loop-item
invariant-loop-item l =
    all_below l.item (λ n. (operations l.plan.problem l.plan.plan (item_at l.plan.problem n) == 0) || is_fenced l.plan.problem l.fenced n) ≡ true

use Rattle.std.proofs.Common.{◌≡◌, ap, ◌∙◌, arith}
use Rattle.rollout_rules.specs.Sums.{sum_below}
use Rattle.rollout_rules.specs.Wan.{Rollout}
use Rattle.rollout_rules.specs.Items.{item_count, item_at}
use Rattle.rollout_rules.specs.Operations.{operations}
use Rattle.dependency_graph.proofs.Growing.{item_count-few}
use Rattle.plan_texts.specs.Explain.{op_count}
use Rattle.plan_texts.proofs.explaining.op_count.Goals as goal

pub overflow_add-count : goal.overflow_add-count
overflow_add-count c =
    omega (arith, c.loop-number.invariant.small, c.item_count-number-end.ensures, c.loop-number-test.true, ap (λ (r : Rollout). item_count r.problem) c.requires, item_count-few c.args.plan.now.problem c.checked_plan_is_valid.ensures.network)

pub returns : goal.returns
returns c =
    let r = c.args.index.now in
    let all : c.loop-number.number ≡ item_count r.problem = omega (arith, c.loop-number-test.false, c.loop-number.auto.number-end, c.item_count-number-end.ensures) in
    c.loop-number.invariant.total ∙ ap (λ n. sum_below n (λ k. operations r.problem r.plan (item_at r.problem k))) all ∙ ap (λ (o : Rollout). op_count o.problem o.plan) c.requires

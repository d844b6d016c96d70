use Rattle.std.proofs.Common.{ap, arith}
use Rattle.rollout_rules.specs.Items.{item_count}
use Rattle.rollout_report.proofs.Looking.{row-there}
use Rattle.rollout_report.proofs.totals.operations_of_all.Goals as goal

pub operations-requires : goal.operations-requires
operations-requires c =
    row-there c.args.plan.now c.args.items.now c.requires c.loop-number.number _
    (omega (arith, c.loop-number-test.true, c.item_count-number-end.ensures, ap item_count c.problem.ensures))

use Rattle.std.proofs.Common.{ap, arith}
use Rattle.rollout_rules.specs.Items.{item_count}
use Rattle.rollout_report.proofs.Looking.{row-there}
use Rattle.rollout_report.proofs.course.first_stands.Goals as goal

pub stand_after-requires : goal.stand_after-requires
stand_after-requires c =
    row-there c.args.plan.now c.args.items.now c.requires.items c.loop-number.number _
    (omega (arith, c.loop-number-test.true, c.item_count-number-end.ensures, ap item_count c.problem.ensures))

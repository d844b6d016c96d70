use Rattle.std.proofs.Common.{length, ap, ◌∙◌}
use Rattle.rollout_rules.proofs.Rows.{list_below-length}
use Rattle.fewest_plan.specs.Relief.{is_fullest}
use Rattle.fewest_plan.proofs.relief.by_relief.Goals as goal

pub relieving-requires-clause-count : goal.relieving-requires-clause-count
relieving-requires-clause-count c =
    let p = c.args.problem.now in
    ap length (c.as_slice.ensures ∙ c.in_ok-marks.ensures.value) ∙ list_below-length (length p.links) (is_fullest p)

use Rattle.std.proofs.Common.{length, ap, ◌∙◌}
use Rattle.rollout_rules.proofs.Rows.{list_below-length}
use Rattle.fewest_plan.specs.Stuck.{weighs, stay_full}
use Rattle.fewest_plan.proofs.stuck.stays_by.Goals as goal

pub stay_full-requires : goal.stay_full-requires
stay_full-requires c =
    let p = c.args.problem.now in
    ap length (c.as_slice.ensures ∙ c.in_ok-marks.ensures) ∙ list_below-length (length p.links) (weighs c.args.weight p c.args.l)

pub returns : goal.returns
returns c = c.stay_full.ensures ∙ ap (stay_full c.args.problem.now) (c.as_slice.ensures ∙ c.in_ok-marks.ensures)

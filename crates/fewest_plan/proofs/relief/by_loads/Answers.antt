use Rattle.std.proofs.Common.{length, ap, ◌∙◌, arith}
use Rattle.std.proofs.lemmas.Result.{IfOk-weaker}
use Rattle.rollout_rules.specs.Sums.{list_below}
use Rattle.fewest_plan.specs.Relief.{of_rank}
use Rattle.fewest_plan.proofs.Relieving.{ranks-count}
use Rattle.fewest_plan.proofs.relief.by_loads.Goals as goal

pub by_rank-requires : goal.by_rank-requires
by_rank-requires c = omega (arith, ap length (c.as_slice.ensures ∙ c.in_ok-row.ensures), ranks-count c.args.before.now c.args.after.now, c.requires.few)

pub returns : goal.returns
returns c =
    IfOk-weaker c.by_rank.result _ _ (λ order e. e ∙ ap (λ row. list_below (length row) (of_rank row)) (c.as_slice.ensures ∙ c.in_ok-row.ensures)) c.by_rank.ensures

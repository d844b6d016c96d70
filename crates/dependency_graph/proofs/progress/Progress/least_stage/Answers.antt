use Rattle.std.proofs.Common.{◌∙◌, [], arith}
use Rattle.rollout_rules.proofs.Below.{least_below-top}
use Rattle.rollout_rules.specs.Wan.{last_stage}
use Rattle.rollout_rules.specs.Items.{item_count}
use Rattle.dependency_graph.specs.Ahead.{stand_with}
use Rattle.dependency_graph.proofs.Counts.{own-least}
use Rattle.dependency_graph.proofs.progress.Progress.least_stage.Goals as goal

pub overflow_cast-result : goal.overflow_cast-result
overflow_cast-result c = omega (arith, c.least_stage.ensures, c.last_stage.ensures.few, c.last_stage.ensures.value, least_below-top (item_count c.args.plan.now.problem) (last_stage c.args.plan.now.plan) (stand_with c.args.plan.now c.args.self.now []))

pub returns : goal.returns
returns c = λ h so. c.least_stage.ensures ∙ own-least c.args.plan.now c.args.self.now h c.requires so

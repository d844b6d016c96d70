use Rattle.std.proofs.Common.{[], arith}
use Rattle.rollout_rules.proofs.Below.{least_below-top}
use Rattle.rollout_rules.specs.Wan.{last_stage}
use Rattle.rollout_rules.specs.Items.{item_count}
use Rattle.dependency_graph.specs.Ahead.{stand_with}
use Rattle.dependency_graph.proofs.progress.Progress.least_stand.Goals as goal

pub returns-clause-within : goal.returns-clause-within
returns-clause-within c = omega (arith, c.least_stage.ensures, least_below-top (item_count c.args.plan.now.problem) (last_stage c.args.plan.now.plan) (stand_with c.args.plan.now c.args.self.now []))

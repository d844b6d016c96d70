use Rattle.std.proofs.Common.{arith}
use Rattle.rollout_rules.specs.Items.{greater_rate}
use Rattle.wan_model.proofs.Shapes.{shaped-rate_behind}
use Rattle.plan_check.proofs.Shares.{load_grown}
use Rattle.plan_check.proofs.sums.add_load.Goals as goal

pub greater_rate-requires-clause-behind : goal.greater_rate-requires-clause-behind
greater_rate-requires-clause-behind c = shaped-rate_behind c.args.problem.now c.args.plan.now c.requires.shape c.args.s c.args.t c.requires.stage c.requires.tunnel

pub returns : goal.returns
returns c =
    load_grown c.args.problem.now (greater_rate c.args.plan.now c.args.s) c.args.t _ _ _ _ c.links_of.ensures.network c.requires.tunnel c.links_of.ensures.list c.greater_rate.ensures (omega arith) c.add_along.ensures

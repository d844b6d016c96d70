use Rattle.std.proofs.Common.{arith}
use Rattle.plan_check.proofs.Shares.{load_grown}
use Rattle.rollout_rules.specs.Wan.{tunnel_of}
use Rattle.fewest_plan.specs.Growth.{gain}
use Rattle.fewest_plan.proofs.growing.add_gain.Goals as goal

pub returns : goal.returns
returns c =
    load_grown c.args.problem.now (gain c.args.problem.now) (tunnel_of c.args.problem.now c.args.f c.args.j) _ _ _ _ c.links_of.ensures.network (grind arith) (grind arith) (grind arith) (omega arith) c.raise_links.ensures

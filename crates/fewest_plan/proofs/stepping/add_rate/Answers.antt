use Rattle.std.proofs.Common.{arith}
use Rattle.plan_check.proofs.Shares.{load_grown}
use Rattle.fewest_plan.specs.Greedy.{rate_after}
use Rattle.fewest_plan.proofs.stepping.add_rate.Goals as goal

pub returns : goal.returns
returns c =
    load_grown c.args.problem.now (rate_after c.args.problem.now c.args.scale c.args.shares.now) c.args.t _ _ _ _ c.links_of.ensures.network c.requires.tunnel c.links_of.ensures.list c.rate.ensures (omega arith) c.raise_links.ensures

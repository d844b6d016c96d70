use Rattle.std.proofs.Common.{arith}
use Rattle.plan_check.proofs.Shares.{load_grown}
use Rattle.plan_texts.specs.Rows.{larger_at}
use Rattle.plan_texts.proofs.sums.add_rate.Goals as goal

pub returns : goal.returns
returns c =
    load_grown c.args.problem.now (larger_at c.args.plan.now c.args.here c.args.next) c.args.t _ _ _ _ c.links_of.ensures.network c.requires.tunnel c.links_of.ensures.list c.larger_rate.ensures (omega arith) c.add_along.ensures

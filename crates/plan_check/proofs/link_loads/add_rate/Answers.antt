use Rattle.std.proofs.Common.{slice_index, arith}
use Rattle.plan_check.proofs.Shares.{load_grown}
use Rattle.plan_check.proofs.link_loads.add_rate.Goals as goal

pub returns : goal.returns
returns c =
    load_grown c.args.problem.now (slice_index c.args.rates.now) c.args.t _ _ _ _ c.links_of.ensures.network c.requires.tunnel c.links_of.ensures.list (grind arith) (omega arith) c.add_along.ensures

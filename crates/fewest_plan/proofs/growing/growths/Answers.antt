use Rattle.std.proofs.Common.{◌≡◌, arith}
use Rattle.rollout_rules.specs.Wan.{flow_at}
use Rattle.fewest_plan.proofs.Gaining.{growths-from}
use Rattle.fewest_plan.proofs.growing.growths.Goals as goal

pub returns-clause-value : goal.returns-clause-value
returns-clause-value c =
    let all : c.loop-j.j ≡ (flow_at c.args.problem.now c.args.f).tunnels = grind arith in
    growths-from c.args.problem.now c.args.f c.loop-j.sums.items c.loop-j.j all c.loop-j.invariant

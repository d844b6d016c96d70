use Rattle.std.proofs.Common.{◌≡◌, ◌<◌, length, arith}
use Rattle.step_lp.specs.Program.{limits}
use Rattle.step_lp.proofs.Speaking.{limit_at}
use Rattle.step_lp.proofs.building.build.Goals as goal

pub add_row-requires-clause-limit : goal.add_row-requires-clause-limit
add_row-requires-clause-limit c =
    let all : c.as_slice-limit-items.result.now ≡ limits c.args.problem.now c.args.q = grind arith in
    let inside : c.loop-limit.limit-index < length c.as_slice-limit-items.result.now = grind arith in
    limit_at c.args.problem.now c.args.q _ all _ _ inside

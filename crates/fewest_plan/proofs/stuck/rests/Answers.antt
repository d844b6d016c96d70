use Rattle.std.proofs.Common.{◌≡◌, ◌<◌, false, length, sym, arith}
use Rattle.rollout_rules.proofs.Below.{all_below_stops}
use Rattle.fewest_plan.specs.Stuck.{rests_at}
use Rattle.fewest_plan.proofs.stuck.rests.Goals as goal

pub returns-then-not-rests_at : goal.returns-then-not-rests_at
returns-then-not-rests_at c =
    let p = c.args.problem.now in
    let inside : c.loop-t.t < length p.tunnels = grind arith in
    let fails : rests_at p c.args.l c.loop-t.t ≡ false = cc in
    sym (all_below_stops (rests_at p c.args.l) (length p.tunnels) c.loop-t.t inside fails)

use Rattle.std.proofs.Common.{◌≡◌, ◌<◌, false, length, sym, arith}
use Rattle.rollout_rules.proofs.Below.{all_below_stops}
use Rattle.fewest_plan.specs.Relief.{is_near}
use Rattle.fewest_plan.proofs.relief.is_fullest.Goals as goal

pub returns-then-not-is_near : goal.returns-then-not-is_near
returns-then-not-is_near c =
    let p = c.args.problem.now in
    let inside : c.loop-m.m < length p.links = grind arith in
    let fails : is_near p c.args.l c.loop-m.m ≡ false = cc in
    sym (all_below_stops (is_near p c.args.l) (length p.links) c.loop-m.m inside fails)

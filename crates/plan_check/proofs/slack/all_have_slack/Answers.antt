use Rattle.std.proofs.Common.{◌≡◌, ◌<◌, false, length, sym, arith}
use Rattle.rollout_rules.proofs.Below.{all_below_stops}
use Rattle.plan_check.specs.LeastSlack.{has_slack_at}
use Rattle.plan_check.proofs.slack.all_have_slack.Goals as goal

pub returns-then-not-has_slack_at : goal.returns-then-not-has_slack_at
returns-then-not-has_slack_at c =
    let p = c.args.problem.now in
    let inside : c.loop-l.l < length p.links = grind arith in
    let fails : has_slack_at p c.args.k c.loop-l.l ≡ false = cc in
    sym (all_below_stops (has_slack_at p c.args.k) (length p.links) c.loop-l.l inside fails)

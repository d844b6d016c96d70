use Rattle.std.proofs.Common.{◌≡◌, ◌<◌, true, sym, ap, ◌∙◌, arith}
use Rattle.rollout_rules.specs.Slack.{has_slack}
use Rattle.plan_check.specs.First.{first_below}
use Rattle.plan_check.specs.LeastSlack.{slack_of, least_slack}
use Rattle.plan_check.proofs.Firsts.{first_below_stops}
use Rattle.plan_check.proofs.LeastSlack.{slack_of-has}
use Rattle.plan_check.proofs.slack.least_over.Goals as goal

pub returns-then-all_have_slack : goal.returns-then-all_have_slack
unfolding least_slack
returns-then-all_have_slack c =
    let p = c.args.problem.now in
    let inside : c.loop-k.k < 65 = grind arith in
    let has : has_slack p c.loop-k.k ≡ true = sym c.all_have_slack.ensures ∙ c.if-all_have_slack.true in
    sym (first_below_stops (slack_of p) 65 c.loop-k.k c.loop-k.k inside c.loop-k.invariant.none (slack_of-has p c.loop-k.k c.loop-k.invariant.least has))

pub returns : goal.returns
unfolding least_slack
returns c =
    let end : c.loop-k.k ≡ 65 = grind arith in
    sym c.loop-k.invariant.none ∙ ap (λ k. first_below k (slack_of c.args.problem.now)) end

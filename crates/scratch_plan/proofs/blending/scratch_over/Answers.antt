use Rattle.std.proofs.Common.{sym, ap, ◌∙◌, arith}
use Rattle.plan_check.proofs.LeastSlack.{HasLeast, some-HasLeast}
use Rattle.rollout_rules.specs.Valid.{is_valid_plan}
use Rattle.scratch_plan.proofs.Causes.{room}
use Rattle.scratch_plan.proofs.Slackness.{slack-valid}
use Rattle.scratch_plan.proofs.blending.scratch_over.Goals as goal
use Rattle.scratch_plan.proofs.blending.scratch_over.Goals.{In-Some}

least : (c : In-Some) → HasLeast c.args.problem.now c.in-Some.k
least c = some-HasLeast c.args.problem.now c.in-Some.k (sym c.requires.least ∙ c.in-Some.is)

pub overflow_cast-k : goal.overflow_cast-k
overflow_cast-k c = omega (arith, (least c).most)

pub by_slack-requires-clause-least : goal.by_slack-requires-clause-least
by_slack-requires-clause-least c = (least c).least

pub by_slack-requires-clause-most : goal.by_slack-requires-clause-most
by_slack-requires-clause-most c = (least c).most

pub returns-in_ok-by_slack-in-Some-clause-valid : goal.returns-in_ok-by_slack-in-Some-clause-valid
returns-in_ok-by_slack-in-Some-clause-valid c =
    let p = c.args.problem.now in
    let k = some-HasLeast p c.in-Some.k (sym c.requires.least ∙ c.in-Some.is) in
    ap (is_valid_plan p) c.in_ok-by_slack-in-Some.ensures ∙ slack-valid p c.in-Some.k c.links.ensures.network (room p c.requires.fits) k.least k.most k.has

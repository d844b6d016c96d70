use Rattle.std.proofs.Common.{sym, ◌∙◌, subst}
use Rattle.fewest_plan.specs.Found.{Answers}
use Rattle.fewest_plan.proofs.Chosen.{in_place-then, in_place-else}
use Rattle.fewest_plan.proofs.choosing.in_place.Goals as goal

pub returns-then-is_no_slack : goal.returns-then-is_no_slack
returns-then-is_no_slack c =
    subst (λ w. Answers c.without_slack.result w) (sym (in_place-then c.args.problem.now c.args.cause (sym c.is_no_slack.ensures ∙ c.if-is_no_slack.true))) c.without_slack.ensures

pub returns : goal.returns
returns c = in_place-else c.args.problem.now c.args.cause (sym c.is_no_slack.ensures ∙ c.if-is_no_slack.false)

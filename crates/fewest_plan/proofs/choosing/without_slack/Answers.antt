use Rattle.std.proofs.Common.{Option, sym, ap, ◌∙◌, subst}
use Rattle.plan_choose.specs.Choice.{Choice}
use Rattle.fewest_plan.specs.Fewest.{or_why}
use Rattle.fewest_plan.specs.Found.{Answers}
use Rattle.fewest_plan.specs.Stuck.{stuck_link}
use Rattle.fewest_plan.proofs.choosing.without_slack.Goals as goal

pub returns-in-Some : goal.returns-in-Some
returns-in-Some c = ap (λ (o : Option Choice). or_why o c.args.cause (stuck_link c.args.problem.now)) (sym c.in_ok-found.ensures ∙ c.in-Some.is)

pub returns-in-None : goal.returns-in-None
returns-in-None c =
    subst (λ w. Answers c.cause_of_none.result w)
    (sym (ap (λ (o : Option Choice). or_why o c.args.cause (stuck_link c.args.problem.now)) (sym c.in_ok-found.ensures ∙ c.in-None.is))) c.cause_of_none.ensures

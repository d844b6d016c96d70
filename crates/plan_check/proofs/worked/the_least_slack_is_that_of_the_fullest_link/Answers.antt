use Rattle.std.proofs.Common.{refl}
use Rattle.plan_check.specs.LeastSlack.{least_slack}
use Rattle.plan_check.proofs.worked.the_least_slack_is_that_of_the_fullest_link.Goals as goal

pub returns-clause-half : goal.returns-clause-half
unfolding least_slack
returns-clause-half c = refl

pub returns-clause-third : goal.returns-clause-third
unfolding least_slack
returns-clause-third c = refl

pub returns-clause-new_is_full : goal.returns-clause-new_is_full
unfolding least_slack
returns-clause-new_is_full c = refl

pub returns-clause-least : goal.returns-clause-least
unfolding least_slack
returns-clause-least c = refl

pub returns-clause-less : goal.returns-clause-less
unfolding least_slack
returns-clause-less c = refl

pub returns-clause-no_flow : goal.returns-clause-no_flow
unfolding least_slack
returns-clause-no_flow c = refl

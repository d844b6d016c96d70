use Rattle.text_commands.proofs.Complete.{slack-answers}
use Rattle.text_commands.proofs.laws.each_planner_plans_what_slack_does.Goals as goal

pub returns : goal.returns
returns c = slack-answers

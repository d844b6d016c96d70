use Rattle.text_commands.proofs.Planned.{slack-chosen, fewest-chosen}
use Rattle.text_commands.proofs.texts.plan.chosen_by.Goals as goal

pub returns-in-Slack : goal.returns-in-Slack
returns-in-Slack c = slack-chosen c.args.planner c.args.problem c.by_slack.result c.in-Slack.is c.by_slack.ensures

pub returns-in-Fewest : goal.returns-in-Fewest
returns-in-Fewest c = fewest-chosen c.args.planner c.args.problem c.fewest.result c.in-Fewest.is c.fewest.ensures

use Rattle.text_commands.proofs.Planned.{slack-found, slack-missed}
use Rattle.text_commands.proofs.texts.plan.by_slack.Goals as goal

pub returns-in-Ok : goal.returns-in-Ok
returns-in-Ok c = slack-found c.args.problem c.in-Ok.chosen c.in-Ok.ensures

pub returns-in-Err : goal.returns-in-Err
returns-in-Err c = slack-missed c.args.problem c.in-Err.unplanned c.cause_unchosen.result c.in-Err.ensures c.cause_unchosen.ensures.problem c.cause_unchosen.ensures.cause

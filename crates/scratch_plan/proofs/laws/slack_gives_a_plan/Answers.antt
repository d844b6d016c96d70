use Rattle.scratch_plan.proofs.Slackness.{slack-valid}
use Rattle.scratch_plan.proofs.laws.slack_gives_a_plan.Goals as goal

pub returns : goal.returns
returns c = slack-valid

use Rattle.std.proofs.Common.{ap}
use Rattle.text_commands.specs.Answers.{rollout_text}
use Rattle.text_commands.proofs.Documents.{checked-turned, sealed-turned}
use Rattle.text_commands.proofs.texts.back.turned_back.Goals as goal

pub returns-in-Ok-clause-gives : goal.returns-in-Ok-clause-gives
returns-in-Ok-clause-gives c = checked-turned _ _ _ c.in_ok-plan.ensures.gives (ap rollout_text c.in-Ok.ensures.back)

pub returns-in-Ok-clause-safe : goal.returns-in-Ok-clause-safe
returns-in-Ok-clause-safe c = sealed-turned c.args.document c.in_ok-plan.plan c.in_ok-plan.ensures.sealed c.in-Ok.ensures.turned

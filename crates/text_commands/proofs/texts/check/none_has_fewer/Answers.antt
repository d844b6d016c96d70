use Rattle.text_commands.proofs.Claims.{shown-least}
use Rattle.text_commands.proofs.texts.check.none_has_fewer.Goals as goal

pub returns : goal.returns
returns c = shown-least c.args.plan.now c.args.claim.now c.checked_plan_is_valid.ensures.network c.requires

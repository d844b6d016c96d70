use Rattle.text_commands.proofs.Claims.{shown-passes, unshown-steps}
use Rattle.text_commands.proofs.texts.check.is_shown.Goals as goal

pub returns-then-fits : goal.returns-then-fits
returns-then-fits c =
    shown-passes c.args.plan.now c.args.claim.now c.rate_steps-q.result c.is_one_less-fits.result c.passes.result c.rate_steps-q.ensures c.is_one_less-fits.ensures c.if-fits.true c.passes.ensures

pub returns : goal.returns
returns c = unshown-steps c.args.plan.now c.args.claim.now c.rate_steps-q.result c.is_one_less-fits.result c.rate_steps-q.ensures c.is_one_less-fits.ensures c.if-fits.false

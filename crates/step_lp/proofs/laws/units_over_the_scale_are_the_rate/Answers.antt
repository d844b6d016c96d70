use Rattle.std.proofs.Common.{sym}
use Rattle.step_lp.proofs.Both.{told_whole}
use Rattle.step_lp.proofs.laws.units_over_the_scale_are_the_rate.Goals as goal

pub returns : goal.returns
returns c x scale h some over = sym (told_whole x scale h over some)

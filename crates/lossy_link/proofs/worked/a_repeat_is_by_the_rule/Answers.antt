use Rattle.lossy_link.proofs.SmallCases.{repeated}
use Rattle.lossy_link.proofs.worked.a_repeat_is_by_the_rule.Goals as goal

pub returns : goal.returns
returns c = repeated

use Rattle.lossy_link.proofs.SmallCases.{never_offered}
use Rattle.lossy_link.proofs.worked.a_command_that_was_never_offered_is_not_by_the_rule.Goals as goal

pub returns : goal.returns
returns c = never_offered

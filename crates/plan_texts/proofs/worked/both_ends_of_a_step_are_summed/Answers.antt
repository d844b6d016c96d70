use Rattle.std.specs.Fmt.{digits}
use Rattle.json.specs.Print.{escape_byte}
use Rattle.std.proofs.Common.{refl}
use Rattle.plan_texts.proofs.worked.both_ends_of_a_step_are_summed.Goals as goal

pub returns-clause-line : goal.returns-clause-line
unfolding digits escape_byte
returns-clause-line c = refl

pub returns-clause-fullest : goal.returns-clause-fullest
unfolding digits escape_byte
returns-clause-fullest c = refl

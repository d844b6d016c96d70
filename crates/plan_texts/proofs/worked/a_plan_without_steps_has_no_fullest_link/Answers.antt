use Rattle.std.specs.Fmt.{digits}
use Rattle.json.specs.Print.{escape_byte}
use Rattle.std.proofs.Common.{refl}
use Rattle.plan_texts.proofs.worked.a_plan_without_steps_has_no_fullest_link.Goals as goal

pub returns-clause-line : goal.returns-clause-line
unfolding digits escape_byte
returns-clause-line c = refl

pub returns-clause-none : goal.returns-clause-none
unfolding digits escape_byte
returns-clause-none c = refl

use Rattle.std.specs.Fmt.{digits}
use Rattle.json.specs.Print.{escape_byte}
use Rattle.std.proofs.Common.{refl}
use Rattle.plan_texts.proofs.worked.operations_are_numbered_along_the_plan.Goals as goal

pub returns-clause-first : goal.returns-clause-first
unfolding digits escape_byte
returns-clause-first c = refl

pub returns-clause-second : goal.returns-clause-second
unfolding digits escape_byte
returns-clause-second c = refl

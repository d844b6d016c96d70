use Rattle.std.specs.Fmt.{digits}
use Rattle.json.specs.Print.{escape_byte}
use Rattle.std.proofs.Common.{refl}
use Rattle.plan_texts.specs.Loads.{loads_text}
use Rattle.plan_texts.proofs.worked.a_plan_of_one_step.Goals as goal

pub returns : goal.returns
unfolding loads_text digits escape_byte
returns c = refl

use Rattle.std.specs.Fmt.{digits}
use Rattle.json.specs.Print.{escape_byte}
use Rattle.std.proofs.Common.{refl}
use Rattle.plan_texts.proofs.worked.needs_from_the_start_are_left_out.Goals as goal

pub returns-clause-flow : goal.returns-clause-flow
unfolding digits escape_byte
returns-clause-flow c = refl

pub returns-clause-idle : goal.returns-clause-idle
unfolding digits escape_byte
returns-clause-idle c = refl

pub returns-clause-coming : goal.returns-clause-coming
unfolding digits escape_byte
returns-clause-coming c = refl

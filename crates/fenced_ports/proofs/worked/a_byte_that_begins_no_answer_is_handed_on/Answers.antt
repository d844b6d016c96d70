use Rattle.std.proofs.Common.{refl}
use Rattle.fenced_ports.proofs.worked.a_byte_that_begins_no_answer_is_handed_on.Goals as goal

pub returns : goal.returns
returns c = record { own = refl; lower = refl }

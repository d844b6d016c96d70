use Rattle.std.proofs.Common.{refl}
use Rattle.port_session.specs.Reading.{answers_of}
use Rattle.port_session.proofs.worked.an_answer_of_another_migration_tells_nothing.Goals as goal

pub returns : goal.returns
unfolding answers_of
returns c = refl

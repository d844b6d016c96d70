use Rattle.std.proofs.Common.{refl}
use Rattle.wan_edge.specs.Frames.{command_bytes, command_head}
use Rattle.held_service.proofs.worked.a_question_names_its_migration.Goals as goal

pub returns : goal.returns
unfolding command_bytes command_head
returns c = refl

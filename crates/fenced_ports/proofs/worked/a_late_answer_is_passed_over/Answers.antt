use Rattle.std.proofs.Common.{refl}
use Rattle.wan_edge.specs.Frames.{answer_bytes}
use Rattle.fenced_ports.proofs.worked.a_late_answer_is_passed_over.Goals as goal

pub returns : goal.returns
unfolding answer_bytes
returns c = refl

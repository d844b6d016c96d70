use Rattle.std.proofs.Common.{refl}
use Rattle.wan_edge.specs.Frames.{answer_bytes}
use Rattle.fenced_ports.proofs.worked.an_answer_is_handed_on_behind_its_own_floor.Goals as goal

pub returns : goal.returns
unfolding answer_bytes
returns c = record { own = refl; lower = refl; above = refl; none = refl }

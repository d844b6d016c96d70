use Rattle.std.proofs.Common.{refl}
use Rattle.wan_edge.specs.Frames.{answer_bytes}
use Rattle.fenced_agent.proofs.worked.the_floor_stands_in_front_of_an_answer.Goals as goal

pub returns : goal.returns
unfolding answer_bytes
returns c = record { with_floor = refl; without = refl }

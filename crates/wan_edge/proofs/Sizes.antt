-- How long frames are.
use Rattle.std.proofs.Common.{arith, length, refl, ◌<◌, ◌≡◌}
use Rattle.wan_edge.specs.Frames.{AnswerFrame, CommandFrame, answer_bytes, command_bytes, command_head}

pub answer-length : (a : AnswerFrame) → length (answer_bytes a) ≡ 13
unfolding answer_bytes
answer-length a = refl

pub command-some : (c : CommandFrame) → 0 < length (command_bytes c)
unfolding command_bytes command_head
command-some c = omega arith

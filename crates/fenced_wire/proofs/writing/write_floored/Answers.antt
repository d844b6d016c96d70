use Rattle.wan_edge.specs.Frames.{answer_bytes}
use Rattle.fenced_wire.proofs.writing.write_floored.Goals as goal

pub returns : goal.returns
unfolding answer_bytes
returns c = rw (c.write_u32-4.ensures, c.write_u32-3.ensures, c.write_u32-2.ensures, c.write_u32.ensures, ← c.answer.view_is)

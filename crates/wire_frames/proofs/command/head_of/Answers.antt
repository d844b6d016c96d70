use Rattle.wan_edge.specs.Frames.{command_head}
use Rattle.wire_frames.specs.Contents.{length-content_of}
use Rattle.wire_frames.proofs.command.head_of.Goals as goal

pub returns : goal.returns
unfolding command_head
returns c =
    rw (c.write_u32-4.ensures, c.write_u32-3.ensures, c.write_u32-2.ensures, c.write_u32.ensures, ← c.command.view_is, length-content_of c.command.inside.count c.command.inside.rates c.command.invariant)

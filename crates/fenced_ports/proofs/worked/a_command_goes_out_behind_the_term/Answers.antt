use Rattle.std.proofs.Common.{refl}
use Rattle.wan_edge.specs.Frames.{command_bytes, command_head}
use Rattle.fenced_ports.proofs.worked.a_command_goes_out_behind_the_term.Goals as goal

pub returns : goal.returns
unfolding command_bytes command_head
returns c = refl

use Rattle.std.proofs.Common.{sym, subst}
use Rattle.wan_edge.specs.Frames.{IsCutCommand}
use Rattle.wire_frames.proofs.Cuts.{cut_none}
use Rattle.wire_frames.proofs.command_reader.CommandReader.new.Goals as goal

pub returns-clause-cut : goal.returns-clause-cut
returns-clause-cut c = subst IsCutCommand (sym c.new.ensures) cut_none

use Rattle.std.proofs.Common.{◌∙◌, sym}
use Rattle.wire_frames.proofs.Cuts.{cut_kept}
use Rattle.wire_frames.proofs.command_reader.CommandReader.feed.Goals as goal

pub returns-clause-cut : goal.returns-clause-cut
returns-clause-cut c live = cut_kept c.self.inside.front c.args.piece.now c.read_command-given.result _ c.read_command-given.ensures.read (sym c.is_ok-self-inside.ensures.value ∙ live)

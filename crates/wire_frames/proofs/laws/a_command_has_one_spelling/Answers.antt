use Rattle.wire_frames.proofs.OneSpelling.{one_command}
use Rattle.wire_frames.proofs.laws.a_command_has_one_spelling.Goals as goal

pub returns : goal.returns
returns c = one_command

use Rattle.std.proofs.Common.{◌≡◌, ◌++◌, drop}
use Rattle.port_session.specs.Offers.{frames_of}
use Rattle.port_session.proofs.frames.write_frames.Given as goal

-- what was written, with what is left to write, is all
abbrev pub invariant-loop-command : goal.invariant-loop-command
invariant-loop-command l = l.out.items ++ frames_of l.migration (drop l.command-index l.commands) ≡ frames_of l.migration l.commands

use Rattle.std.proofs.Common.{◌≡◌, take}
use Rattle.switch_ports.specs.Due.{due_of}
use Rattle.switch_ports.proofs.due.due_each.Given as goal

-- Those that are due among the sessions so far were listed.
abbrev pub invariant-loop-session : goal.invariant-loop-session
invariant-loop-session g l = l.due.items ≡ due_of (take l.session-index l.sessions)

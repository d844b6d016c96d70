use Rattle.std.proofs.Common.{◌≡◌, ◌++◌, List}
use Rattle.wan_edge.specs.Frames.{Answer}
use Rattle.switch_ports.proofs.Rowed.{HeardSoFar}
use Rattle.switch_ports.proofs.round.hear_each.Given as goal

abbrev pub invariant-loop-session : goal.invariant-loop-session
invariant-loop-session g l =
    (told : List Answer) × (l.heard.answers ≡ l.fn.heard.answers ++ told) × HeardSoFar g.T.Port.told l.fn.migration l.fn.homes l.session-index l.initial.sessions l.sessions told
    × (l.heard.migration ≡ l.fn.migration)

use Rattle.std.proofs.Common.{ap, ◌∙◌}
use Rattle.fenced_ports.specs.FencedPorts.{Fenced}
use Rattle.fenced_ports.proofs.Standing.{fenced_failed, fenced_heard, next_whole}
use Rattle.fenced_ports.proofs.port.FencedPort.next.Goals as goal

pub hear_plain-requires : goal.hear_plain-requires
hear_plain-requires g c = c.self.invariant.whole (ap (λ (f : Fenced g.row.T.Denot). f.down) c.self.view_is ∙ c.requires)

pub invariant_of-self : goal.invariant_of-self
invariant_of-self g c =
    let tell = g.T.Port.told in
    let s = c.self.inside in
    let up = ap (λ (f : Fenced g.row.T.Denot). f.down) c.self.view_is ∙ c.requires in
    let now = tell c.hear_plain.new.port in
    fenced_heard (tell s.begun.value) (tell s.port) now s.term s.sieve s.commands.kept s.commands.live s.down s.offered c.self.invariant c.hear_plain.new.sieve up c.hear_plain.ensures.sifts c.hear_plain.ensures.unsent
    (next_whole c.in-Ok.found (tell s.port) now s.sieve c.hear_plain.new.sieve c.in-Ok.ensures.hands)

pub invariant_of-self-in-Err : goal.invariant_of-self-in-Err
invariant_of-self-in-Err g c =
    let tell = g.T.Port.told in
    let s = c.self.inside in
    fenced_failed (tell s.begun.value) (tell s.port) (tell c.hear_plain.new.port) s.term s.sieve s.commands.kept s.commands.live s.down s.offered c.self.invariant c.hear_plain.new.sieve c.hear_plain.ensures.sifts c.hear_plain.ensures.unsent

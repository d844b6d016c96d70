use Rattle.std.proofs.Common.{ap, ◌∙◌}
use Rattle.fenced_ports.specs.FencedPorts.{Fenced}
use Rattle.fenced_ports.proofs.Standing.{fenced_sent, fenced_unsent}
use Rattle.fenced_ports.proofs.port.FencedPort.send.Goals as goal

pub send_framed-sent-requires : goal.send_framed-sent-requires
send_framed-sent-requires g c = c.self.invariant.ready (ap (λ (f : Fenced g.row.T.Denot). f.down) c.self.view_is ∙ c.requires)

pub invariant_of-self : goal.invariant_of-self
invariant_of-self g c =
    let tell = g.T.Port.told in
    let s = c.self.inside in
    let up = ap (λ (f : Fenced g.row.T.Denot). f.down) c.self.view_is ∙ c.requires in
    let reader = c.send_framed-sent.new.reader in
    fenced_sent (tell s.begun.value) (tell s.port) (tell c.send_framed-sent.new.port) s.term s.sieve s.commands.kept s.commands.live s.down s.offered c.self.invariant reader.kept c.args.from.now c.add.new.self reader.live up c.in-Ok.ensures.ok c.send_framed-sent.ensures.unheard c.add.ensures c.in-Ok.ensures.live

pub invariant_of-self-in-Err : goal.invariant_of-self-in-Err
invariant_of-self-in-Err g c =
    let tell = g.T.Port.told in
    let s = c.self.inside in
    let up = ap (λ (f : Fenced g.row.T.Denot). f.down) c.self.view_is ∙ c.requires in
    let reader = c.send_framed-sent.new.reader in
    fenced_unsent (tell s.begun.value) (tell s.port) (tell c.send_framed-sent.new.port) s.term s.sieve s.commands.kept s.commands.live s.down s.offered c.self.invariant reader.kept c.args.from.now c.add.new.self reader.live up c.in-Err.ensures.err c.send_framed-sent.ensures.unheard c.add.ensures

use Rattle.std.proofs.Common.{false, subst, sym}
use Rattle.fenced_ports.specs.FencedPorts.{IsFenced}
use Rattle.fenced_ports.proofs.Standing.{fenced_first}
use Rattle.fenced_ports.proofs.port.FencedPort.new.Goals as goal

pub invariant_of-result : goal.invariant_of-result
invariant_of-result g c =
    let tell = g.T.Port.told in
    subst (λ (begun : g.row.T.Denot). IsFenced (tell begun) (tell c.args.port) c.args.term c.new.result c.new-2.result.kept c.new-2.result.live false c.new-4.result) (sym c.of.ensures)
    (fenced_first (tell c.args.port) c.args.term c.new.result c.new-2.result c.new-4.result c.new.ensures c.new-2.ensures.new c.new-4.ensures)

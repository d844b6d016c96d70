use Rattle.std.proofs.Common.{arith}
use Rattle.fenced_ports.proofs.Sifted.{hears-byte, hears-none}
use Rattle.fenced_ports.proofs.hearing.hear_one.Goals as goal

pub returns-then-n-eq0-clause-one : goal.returns-then-n-eq0-clause-one
returns-then-n-eq0-clause-one g c = hears-none c.in_ok-n.n c.hear.new.into (g.T.Port.told c.args.port.now) (g.T.Port.told c.hear.new.self) c.in_ok-n.ensures.given c.if-n-eq0.true

pub returns-clause-one : goal.returns-clause-one
returns-clause-one g c =
    hears-byte c.in_ok-n.n c.hear.new.into (g.T.Port.told c.args.port.now) (g.T.Port.told c.hear.new.self) c.in_ok-n.ensures.given (omega (arith, c.hear.auto.into)) (omega (arith, c.in_ok-n.ensures.within, c.hear.auto.into)) c.if-n-eq0.false

use Rattle.std.proofs.Common.{arith}
use Rattle.host_edge.proofs.Noting.{looks_early, looks_ready}
use Rattle.host_edge.proofs.tcp_port.TcpPortPort.is_ready.Goals as goal

pub returns-then-peek-clause-looks : goal.returns-then-peek-clause-looks
returns-then-peek-clause-looks g c =
    let before = c.args.self.now in
    let now = c.peek.new.self in
    let peeked = c.peek.ensures in
    looks_ready before.offered before.heard now.offered now.heard before.quiet before.waits now.quiet now.waits peeked.offered peeked.heard peeked.quiet peeked.waits

pub returns-then-has_waited-clause-looks : goal.returns-then-has_waited-clause-looks
returns-then-has_waited-clause-looks g c =
    let before = c.args.self.now in
    let now = c.peek.new.self in
    let peeked = c.peek.ensures in
    looks_ready before.offered before.heard now.offered now.heard before.quiet before.waits now.quiet now.waits peeked.offered peeked.heard peeked.quiet peeked.waits

pub returns-clause-looks : goal.returns-clause-looks
returns-clause-looks g c =
    let before = c.args.self.now in
    let now = c.peek.new.self in
    let peeked = c.peek.ensures in
    looks_early before.offered before.heard now.offered now.heard before.quiet before.waits now.quiet c.raise.new.self peeked.offered peeked.heard peeked.quiet (omega (arith, c.raise.ensures, peeked.waits))

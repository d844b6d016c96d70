use Rattle.std.specs.declared.net.tcp.TcpStream.{TcpStream}
use Rattle.host_edge.proofs.Sorting.{offers_nothing}
use Rattle.host_edge.proofs.tcp_port.TcpPort.send.Goals as goal

pub returns-in-None-clause-sent : goal.returns-in-None-clause-sent
returns-in-None-clause-sent g c = offers_nothing TcpStream c.args.self.now.connection c.args.from.now c.in-None.is

use Rattle.std.specs.declared.net.tcp.TcpStream.{TcpStream}
use Rattle.host_edge.proofs.Sorting.{hears_nothing}
use Rattle.host_edge.proofs.tcp_port.TcpPort.look.Goals as goal

pub returns-in-None-clause-told : goal.returns-in-None-clause-told
returns-in-None-clause-told g c = hears_nothing TcpStream c.args.self.now.connection c.in-None.is

use Rattle.std.proofs.Common.{None, refl}
use Rattle.std.specs.declared.net.tcp.TcpStream.{TcpStream}
use Rattle.host_edge.proofs.Sorting.{hears_none}
use Rattle.host_edge.proofs.tcp_port.TcpPort.peek.Goals as goal

pub returns-in-Err-2-clause-told : goal.returns-in-Err-2-clause-told
returns-in-Err-2-clause-told g c = hears_none TcpStream c.args.self.now.connection None (record { inbox = refl; came = refl; outbox = refl })

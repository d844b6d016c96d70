use Rattle.std.proofs.Common.{◌∙◌, sym}
use Rattle.switch_ports.proofs.ports.WorkerPorts.take.Goals as goal

pub returns : goal.returns
returns g c = record {
  talk = c.in_ok-session.session;
  parts = sym c.self.view_is ∙ c.in_ok-session.ensures.items;
  switch_is = sym c.switch.ensures;
  port_is = sym c.into_port.ensures;
}

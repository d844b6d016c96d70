use Rattle.std.proofs.Common.{◌∙◌, nat_eq, ap}
use Rattle.std.specs.List.{list_any}
use Rattle.switch_ports.proofs.Rowed.{any_switch}
use Rattle.switch_ports.proofs.ports.WorkerPorts.add.Goals as goal

pub add-requires : goal.add-requires
add-requires g c = record {
  new = ap (list_any (nat_eq c.args.switch)) c.self.invariant ∙ any_switch (nat_eq c.args.switch) c.self.inside.sessions.items ∙ ap (list_any (λ s. nat_eq c.args.switch s.switch)) c.self.view_is ∙ c.requires.new;
}

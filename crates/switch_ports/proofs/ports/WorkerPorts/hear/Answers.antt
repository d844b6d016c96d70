use Rattle.std.proofs.Common.{◌≡◌, ◌∙◌, length, map, sym, ap, arith}
use Rattle.switch_ports.specs.Hearing.{Listens}
use Rattle.switch_ports.specs.Views.{view}
use Rattle.switch_ports.proofs.Rowed.{back, same_switches}
use Rattle.switch_ports.proofs.ports.WorkerPorts.hear.Goals as goal

pub invariant_of-self : goal.invariant_of-self
invariant_of-self g c =
    let tell = g.T.Port.told in
    let long : length c.hear_each.new.sessions ≡ c.self.inside.sessions.len = omega (arith, c.hear_each.auto.sessions, c.as_mut_slice.ensures.len) in
    c.self.invariant ∙ ap (map (λ s. s.switch)) (sym c.as_mut_slice.ensures.value)
    ∙ sym (same_switches (λ a b. Listens (view tell a) (view tell b)) (λ a b step. step.switch) c.as_mut_slice.result.now c.hear_each.new.sessions c.hear_each.ensures.each)
    ∙ ap (map (λ s. s.switch)) (sym (back c.hear_each.new.sessions c.self.inside.sessions.items c.self.inside.sessions.len long))

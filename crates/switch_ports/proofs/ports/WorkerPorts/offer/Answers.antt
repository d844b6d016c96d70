use Rattle.std.proofs.Common.{◌≡◌, ◌∙◌, length, map, sym, ap, subst, arith}
use Rattle.std.specs.Prelude.{All, IsTrue}
use Rattle.switch_ports.specs.Outboxes.{own}
use Rattle.switch_ports.specs.Offering.{Offers}
use Rattle.switch_ports.specs.Views.{view}
use Rattle.switch_ports.proofs.Rowed.{back, same_live, same_switches}
use Rattle.switch_ports.proofs.ports.WorkerPorts.offer.Goals as goal

pub invariant_of-self : goal.invariant_of-self
invariant_of-self g c =
    let tell = g.T.Port.told in
    let long : length c.offer_each.new.sessions ≡ c.self.inside.sessions.len = omega (arith, c.offer_each.auto.sessions, c.as_mut_slice.ensures.len) in
    c.offer_each.ensures.switches ∙ c.self.invariant ∙ ap (map (λ s. s.switch)) (sym c.as_mut_slice.ensures.value)
    ∙ sym (same_switches (λ a b. Offers c.args.migration (own c.args.homes.now a.switch c.commands.result.now) (view tell a) (view tell b)) (λ a b step. step.switch) c.as_mut_slice.result.now c.offer_each.new.sessions c.offer_each.ensures.each)
    ∙ ap (map (λ s. s.switch)) (sym (back c.offer_each.new.sessions c.self.inside.sessions.items c.self.inside.sessions.len long))

pub returns-clause-live : goal.returns-clause-live
returns-clause-live g c = λ live.
    let tell = g.T.Port.told in
    let long : length c.offer_each.new.sessions ≡ c.self.inside.sessions.len = omega (arith, c.offer_each.auto.sessions, c.as_mut_slice.ensures.len) in
    subst (All (λ s. IsTrue s.stream.live)) (sym (back c.offer_each.new.sessions c.self.inside.sessions.items c.self.inside.sessions.len long))
    (same_live (λ a b. Offers c.args.migration (own c.args.homes.now a.switch c.commands.result.now) (view tell a) (view tell b)) (λ a b step. step.live) c.as_mut_slice.result.now c.offer_each.new.sessions c.offer_each.ensures.each
    (subst (All (λ s. IsTrue s.stream.live)) (sym (c.as_mut_slice.ensures.value ∙ c.self.view_is)) live))

use Rattle.std.proofs.Common.{rules, ◌≡◌, ◌++◌, ◌∷◌, [], ◌-◌, length, sym, subst, subst₂}
use Rattle.rollout_rules.specs.Building.{MayAddTunnel, links_along}
use Rattle.wan_model.specs.Numbered.{IsNumberedNetwork}
use Rattle.wan_model.proofs.Kept.{keeps_with_tunnel, last_row_grows}
use Rattle.wan_model.proofs.problem.Problem.add_tunnel.Goals as goal

pub invariant_of-self-2 : goal.invariant_of-self-2
invariant_of-self-2 c =
    let may = subst (λ p. MayAddTunnel p c.args.path.now c.args.old c.args.new c.args.width) (sym c.self.view_is) c.requires in
    let kept = keeps_with_tunnel _ _ _ _ c.self.invariant c.args.path.now c.args.old c.args.new c.args.width may in
    let long : c.len-flow.result ≡ length c.self.inside.flows.items = search rules in
    let flows = last_row_grows c.self.inside.flows.items c.len-flow.result (record { name = c.behind-self.inside.name; first = c.behind-self.inside.first; tunnels = c.behind-self.inside.tunnels }) long may.some_flow (search rules) in
    let tunnels : c.self.inside.tunnels.items ++ record { flow = length c.self.inside.flows.items - 1; path = c.args.path.now; links = links_along (record { format = c.self.inside.format; switches = c.self.inside.switches.items; links = c.self.inside.links.items; flows = c.self.inside.flows.items; tunnels = c.self.inside.tunnels.items }) c.args.path.now; width = c.args.width; old = c.args.old; new = c.args.new } ∷ [] ≡ c.push_reserved.new.self.items = search rules in
    subst₂ (λ flows tunnels. IsNumberedNetwork (record { format = c.self.inside.format; switches = c.self.inside.switches.items; links = c.self.inside.links.items; flows = flows; tunnels = tunnels }) c.self.inside.switch_names c.self.inside.flow_names c.self.inside.link_ends) flows tunnels kept

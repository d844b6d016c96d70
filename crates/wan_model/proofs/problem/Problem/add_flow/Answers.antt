use Rattle.std.proofs.Common.{rules, ◌≡◌, ◌++◌, ◌∷◌, [], length, ◌∙◌, sym, ap, subst, subst₂}
use Rattle.rollout_rules.specs.Building.{find_flow, MayAddFlow}
use Rattle.wan_model.proofs.Numbers.{numbers_flow}
use Rattle.wan_model.specs.Numbered.{IsNumberedNetwork}
use Rattle.wan_model.proofs.Kept.{keeps_with_flow}
use Rattle.wan_model.proofs.problem.Problem.add_flow.Goals as goal

pub add-requires : goal.add-requires
add-requires c = numbers_flow _ _ _ _ c.self.invariant.1 c.args.name.now ∙ ap (λ p. find_flow p c.args.name.now) c.self.view_is ∙ c.requires.fresh

pub invariant_of-self-2 : goal.invariant_of-self-2
invariant_of-self-2 c =
    let may = subst (λ p. MayAddFlow p c.args.name.now) (sym c.self.view_is) c.requires in
    let kept = keeps_with_flow _ _ _ _ c.self.invariant c.args.name.now may in
    let rows : c.self.inside.flows.items ++ record { name = c.args.name.now; first = length c.self.inside.tunnels.items; tunnels = 0 } ∷ [] ≡ c.push_reserved.new.self.items = search rules in
    let names = sym c.in_ok-add.ensures.ok in
    subst₂ (λ rows names. IsNumberedNetwork (record { format = c.self.inside.format; switches = c.self.inside.switches.items; links = c.self.inside.links.items; flows = rows; tunnels = c.self.inside.tunnels.items }) c.self.inside.switch_names names c.self.inside.link_ends) rows names kept

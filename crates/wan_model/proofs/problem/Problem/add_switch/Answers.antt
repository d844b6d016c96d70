use Rattle.std.proofs.Common.{rules, ◌≡◌, ◌++◌, ◌∷◌, [], ◌∙◌, sym, ap, subst, subst₂}
use Rattle.rollout_rules.specs.Building.{find_switch, MayAddSwitch}
use Rattle.wan_model.proofs.Numbers.{numbers_switch}
use Rattle.wan_model.specs.Numbered.{IsNumberedNetwork}
use Rattle.wan_model.proofs.Kept.{keeps_with_switch}
use Rattle.wan_model.proofs.problem.Problem.add_switch.Goals as goal

pub add-requires : goal.add-requires
add-requires c = numbers_switch _ _ _ _ c.self.invariant.1 c.args.name.now ∙ ap (λ p. find_switch p c.args.name.now) c.self.view_is ∙ c.requires.fresh

pub invariant_of-self-2 : goal.invariant_of-self-2
invariant_of-self-2 c =
    let may = subst (λ p. MayAddSwitch p c.args.name.now c.args.table) (sym c.self.view_is) c.requires in
    let kept = keeps_with_switch _ _ _ _ c.self.invariant c.args.name.now c.args.table may in
    let rows : c.self.inside.switches.items ++ record { name = c.args.name.now; table = c.args.table } ∷ [] ≡ c.push_reserved.new.self.items = search rules in
    let names = sym c.in_ok-add.ensures.ok in
    subst₂ (λ rows names. IsNumberedNetwork (record { format = c.self.inside.format; switches = rows; links = c.self.inside.links.items; flows = c.self.inside.flows.items; tunnels = c.self.inside.tunnels.items }) names c.self.inside.flow_names c.self.inside.link_ends) rows names kept

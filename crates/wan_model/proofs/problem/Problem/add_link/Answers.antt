use Rattle.std.proofs.Common.{rules, ◌≡◌, ◌++◌, ◌∷◌, [], ◌∙◌, sym, ap, subst, subst₂}
use Rattle.rollout_rules.specs.Building.{find_link, MayAddLink}
use Rattle.wan_model.proofs.Numbers.{numbers_link}
use Rattle.wan_model.specs.Numbered.{IsNumberedNetwork}
use Rattle.wan_model.proofs.Kept.{keeps_with_link}
use Rattle.wan_model.proofs.problem.Problem.add_link.Goals as goal

pub add-requires : goal.add-requires
add-requires c = numbers_link _ _ _ _ c.self.invariant.1 c.args.from c.args.to ∙ ap (λ p. find_link p c.args.from c.args.to) c.self.view_is ∙ c.requires.fresh

pub invariant_of-self-2 : goal.invariant_of-self-2
invariant_of-self-2 c =
    let may = subst (λ p. MayAddLink p c.args.from c.args.to c.args.capacity) (sym c.self.view_is) c.requires in
    let kept = keeps_with_link _ _ _ _ c.self.invariant c.args.from c.args.to c.args.capacity may in
    let rows : c.self.inside.links.items ++ record { from = c.args.from; to = c.args.to; capacity = c.args.capacity } ∷ [] ≡ c.push_reserved.new.self.items = search rules in
    let ends = sym c.in_ok-add.ensures.ok in
    subst₂ (λ rows ends. IsNumberedNetwork (record { format = c.self.inside.format; switches = c.self.inside.switches.items; links = rows; flows = c.self.inside.flows.items; tunnels = c.self.inside.tunnels.items }) c.self.inside.switch_names c.self.inside.flow_names ends) rows ends kept

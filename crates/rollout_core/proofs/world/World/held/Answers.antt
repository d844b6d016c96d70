use Rattle.std.proofs.Common.{◌<◌, length, ap, sym, ◌∙◌, subst}
use Rattle.rollout_rules.specs.Items.{item_count}
use Rattle.rollout_rules.specs.World.{held_of}
use Rattle.rollout_core.proofs.HeldPairs.{held-at}
use Rattle.rollout_core.proofs.world.World.held.Goals as goal

pub returns : goal.returns
returns c =
    let w = c.self.inside in
    let inside : c.args.item < length w.held.items = subst (λ n. c.args.item < n) (sym c.self.invariant.items) (subst (λ s. c.args.item < item_count s.rollout.problem) (sym c.self.view_is) c.requires) in
    held-at w.history w.migration w.first.items w.is_up w.writing w.sent w.handed w.held.items c.args.item c.index.result.now inside c.index.ensures ∙ ap (λ s. (held_of s.world c.args.item).held) c.self.view_is

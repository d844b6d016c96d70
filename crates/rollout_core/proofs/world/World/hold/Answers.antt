use Rattle.std.proofs.Common.{◌<◌, length, ap, sym, ◌∙◌, subst}
use Rattle.rollout_rules.specs.Items.{item_count}
use Rattle.rollout_core.specs.Worlds.{with_held}
use Rattle.rollout_core.proofs.HeldPairs.{held-set}
use Rattle.rollout_core.proofs.world.World.hold.Goals as goal

pub returns : goal.returns
returns c =
    let w = c.self.inside in
    let inside : c.args.item < length w.held.items = subst (λ n. c.args.item < n) (sym c.self.invariant.items) (subst (λ s. c.args.item < item_count s.rollout.problem) (sym c.self.view_is) c.requires) in
    held-set w.history w.migration w.first.items w.is_up w.writing w.sent w.handed w.given w.held.items c.args.item c.args.held inside
    ∙ ap (λ s. record { rollout = s.rollout; world = with_held s.rollout.problem s.rollout.plan s.world c.args.item c.args.held }) c.self.view_is

use Rattle.std.proofs.Common.{◌<◌, length, ap, sym, ◌∙◌, subst}
use Rattle.rollout_rules.specs.Items.{item_count}
use Rattle.rollout_rules.specs.World.{comes_late}
use Rattle.rollout_core.proofs.HeldPairs.{received-pairs}
use Rattle.rollout_core.proofs.world.World.receive.Goals as goal

pub returns-clause-ok : goal.returns-clause-ok
returns-clause-ok c =
    let w = c.self.inside in
    let inside : c.args.item < length w.held.items = subst (λ n. c.args.item < n) (sym c.self.invariant.items) (subst (λ s. c.args.item < item_count s.rollout.problem) (sym c.self.view_is) c.requires) in
    received-pairs w.history w.migration w.first.items w.is_up w.writing w.sent w.handed w.given c.push.new.self w.held.items c.args.item c.args.asked c.index.result.now c.pair_after-held.result inside c.index.ensures c.pair_after-held.ensures c.in_ok-push.ensures.ok
    ∙ ap (λ s. record { rollout = s.rollout; world = comes_late s.rollout.problem s.rollout.plan s.world c.args.item c.args.asked }) c.self.view_is

use Rattle.std.proofs.Common.{◌<◌, ◌∙◌, All, List, sym, subst}
use Rattle.rollout_rules.specs.Items.{item_count}
use Rattle.rollout_rules.specs.declared.op.Op.{Op}
use Rattle.update_scheduler.specs.Rounds.{Turning}
use Rattle.update_scheduler.proofs.Turning.{flying-inside}
use Rattle.update_scheduler.proofs.rounds.Rounds.flying.Goals as goal

pub returns-clause-items : goal.returns-clause-items
returns-clause-items c =
    let g = c.self.inside.graph in
    let inside = subst (λ (ops : List Op). All (λ op. op.item < item_count g.rollout.problem) ops) (sym (c.ops.ensures ∙ c.self.invariant.flying)) (flying-inside g.rollout.problem g.history) in
    subst (λ (t : Turning). All (λ op. op.item < item_count t.rollout.problem) c.ops.result.now) c.self.view_is inside

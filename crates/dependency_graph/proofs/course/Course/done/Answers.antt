use Rattle.std.proofs.Common.{◌<◌, subst}
use Rattle.rollout_rules.specs.Wan.{Rollout}
use Rattle.rollout_rules.specs.Items.{item_count}
use Rattle.dependency_graph.proofs.Followed.{flying-left}
use Rattle.dependency_graph.proofs.course.Course.done.Goals as goal

pub next_op-op-requires-clause-left : goal.next_op-op-requires-clause-left
next_op-op-requires-clause-left c =
    flying-left c.args.self.now c.args.item (subst (λ (r : Rollout). c.args.item < item_count r.problem) c.requires.own c.requires.item) c.history_is_legal.ensures c.requires.flying

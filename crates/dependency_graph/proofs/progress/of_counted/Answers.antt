use Rattle.std.proofs.Common.{sym, subst}
use Rattle.rollout_rules.specs.Wan.{Rollout}
use Rattle.dependency_graph.specs.StageCounts.{IsProgress}
use Rattle.dependency_graph.proofs.progress.of_counted.Goals as goal

pub invariant_of-result : goal.invariant_of-result
invariant_of-result c =
    subst (λ (r : Rollout). IsProgress r c.args.counted.settled.items c.args.counted.begun.items c.args.counted.stands) (sym c.in_ok-new.ensures.ok) c.requires

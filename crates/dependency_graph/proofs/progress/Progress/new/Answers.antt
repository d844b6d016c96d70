use Rattle.std.proofs.Common.{◌∙◌, ap, sym, subst}
use Rattle.std.proofs.lemmas.Result.{IfOk-weaker}
use Rattle.rollout_rules.specs.Wan.{Rollout}
use Rattle.rollout_rules.specs.History.{started}
use Rattle.dependency_graph.specs.Progress.{Counts, AreCountsOf}
use Rattle.dependency_graph.specs.StageCounts.{IsProgress}
use Rattle.dependency_graph.proofs.progress.Progress.new.Goals as goal

pub of_counted-requires : goal.of_counted-requires
of_counted-requires c =
    subst (λ (r : Rollout). IsProgress r c.in-Ok.counted.settled.items c.in-Ok.counted.begun.items c.in-Ok.counted.stands) (sym c.in_ok-index.ensures.rollout) c.in-Ok.ensures.progress

pub returns-in-Ok-clause-plan : goal.returns-in-Ok-clause-plan
returns-in-Ok-clause-plan c =
    IfOk-weaker c.of_counted.result _ _ (λ p is. ap (λ (q : Counts). q.rollout) is ∙ c.in_ok-index.ensures.rollout) c.of_counted.ensures

pub returns-in-Ok-clause-counts : goal.returns-in-Ok-clause-counts
returns-in-Ok-clause-counts c =
    let counts : Rollout → Counts = λ r. record { rollout = r; settled = c.in-Ok.counted.settled.items; begun = c.in-Ok.counted.begun.items } in
    IfOk-weaker c.of_counted.result _ _
    (λ p is. subst (λ (q : Counts). AreCountsOf q (started c.args.start.now)) (sym (is ∙ ap counts c.in_ok-index.ensures.rollout)) c.in-Ok.ensures.counts)
    c.of_counted.ensures

use Rattle.std.proofs.Common.{ap, subst, ◌∙◌}
use Rattle.std.proofs.lemmas.Result.{IfOk-weaker}
use Rattle.rollout_rules.specs.Wan.{Problem, Rollout}
use Rattle.rollout_rules.specs.History.{History}
use Rattle.rollout_report.specs.Counts.{AreCountsOf}
use Rattle.rollout_report.proofs.Journaling.{only_dones}
use Rattle.rollout_report.proofs.starts.dones.Goals as goal

pub returns : goal.returns
returns c =
    IfOk-weaker c.over.result _ _
    (λ counts are.
    only_dones c.args.graph.now.rollout.problem c.args.entries.now c.deref.result.now c.item_count.result counts (c.deref.ensures.value ∙ c.in_ok-nothing.ensures.items_if_clones_equal (λ y e. e))
    (subst (λ (q : Problem). AreCountsOf q (record { start = c.deref.result.now; entries = c.args.entries.now }) counts) (ap (λ (r : Rollout). r.problem) c.plan-2.ensures)
    (subst (λ (h : History). AreCountsOf c.plan-2.result.now.problem h counts) c.new.ensures are)))
    c.over.ensures

use Rattle.std.proofs.Common.{ap, ◌∙◌}
use Rattle.rollout_rules.specs.Items.{item_count}
use Rattle.sim_run.proofs.Switches.{nothing-settled}
use Rattle.sim_run.proofs.acts.no_start.Goals as goal

pub returns : goal.returns
returns c =
    c.in_ok-start.ensures.items_if_clones_equal (λ y e. e)
    ∙ nothing-settled c.args.plan.now.problem c.args.plan.now.plan c.item_count-items.result (c.item_count-items.ensures ∙ ap item_count c.problem.ensures)

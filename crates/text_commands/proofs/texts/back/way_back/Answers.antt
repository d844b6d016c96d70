use Rattle.text_commands.proofs.Documents.{is-turned}
use Rattle.text_commands.proofs.texts.back.way_back.Goals as goal

pub returns-clause-turned : goal.returns-clause-turned
returns-clause-turned c =
    is-turned c.args.plan.now c.in_ok-there.there c.it_may_begin_at_each_stage.ensures.valid c.it_may_begin_at_each_stage.ensures.starts
    c.in_ok-there.ensures c.every_rollout_is_safe.ensures.valid c.every_rollout_is_safe.ensures.safe

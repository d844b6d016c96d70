use Rattle.text_commands.proofs.texts.back.it_may_begin_at_each_stage.Goals as goal

pub returns-clause-starts : goal.returns-clause-starts
returns-clause-starts c = λ s most. record {
  sound = c.the_way_back_begins_at_each_stage.ensures.sound c.args.plan.now.problem c.args.plan.now.plan s c.checked_plan_is_valid.ensures.network c.checked_plan_is_valid.ensures.valid most;
  contents = λ n within. c.the_way_back_begins_at_each_stage.ensures.content c.args.plan.now.problem c.args.plan.now.plan s n c.checked_plan_is_valid.ensures.valid most within;
}

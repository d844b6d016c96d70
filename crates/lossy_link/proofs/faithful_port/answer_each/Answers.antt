use Rattle.std.proofs.Common.{◌∙◌}
use Rattle.switch_agent.specs.Items.{holding}
use Rattle.lossy_link.specs.Faithful.{AreAnswered}
use Rattle.lossy_link.proofs.Answering.{answered_on, one_failed}
use Rattle.lossy_link.proofs.Behind.{one_behind, out_behind}
use Rattle.lossy_link.proofs.faithful_port.answer_each.Goals as goal

pub returns-in-Err-clause-some : goal.returns-in-Err-clause-some
returns-in-Err-clause-some c earlier has =
    let failed = c.in-Err.ensures.perhaps in
    one_failed _ _ c.in-Some.command c.in-Some.ensures.given earlier _ _ _ _ (c.loop-command.invariant.behind earlier has)
    c.skip_each.new.incoming c.skip_each.ensures.has failed.0 failed.1 _ _ failed.2 c.in-Err.ensures.unanswered

pub loop-command-preserved : goal.loop-command-preserved
loop-command-preserved c = record {
  same = c.in-Some.ensures.given.same ∙ c.loop-command.invariant.same;
  behind = λ earlier has.
      one_behind _ _ c.in-Some.command c.in-Some.ensures.given earlier
      (AreAnswered (holding c.args.agent.now) (holding c.loop-command.agent) c.args.back.now c.loop-command.back) (AreAnswered (holding c.args.agent.now) (holding c.answer.new.agent) c.args.back.now c.answer.new.back)
      (answered_on (holding c.args.agent.now) (holding c.loop-command.agent) (holding c.answer.new.agent) c.args.back.now c.loop-command.back c.answer.new.back c.in-Some.command c.in_default-answer.ensures.carried_out c.in_default-answer.ensures.answered) (c.loop-command.invariant.behind earlier has);
}

pub returns-clause-each : goal.returns-clause-each
returns-clause-each c earlier has =
    out_behind (AreAnswered (holding c.args.agent.now) (holding c.loop-command.agent) c.args.back.now c.loop-command.back) earlier _ _ c.in_default.ensures.none (c.loop-command.invariant.behind earlier has)

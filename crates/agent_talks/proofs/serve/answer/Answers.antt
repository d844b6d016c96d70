use Rattle.agent_talks.proofs.Chains.{carried_in_part, carried_one}
use Rattle.agent_talks.proofs.Stops.{no_room}
use Rattle.std.proofs.Common.{◌∙◌}
use Rattle.agent_talks.proofs.serve.answer.Goals as goal

pub returns-in-Ok-write_all-clause-carried : goal.returns-in-Ok-write_all-clause-carried
returns-in-Ok-write_all-clause-carried g c =
    carried_one c.args.agent.now c.carry_out.new.agent c.args.frame.now c.bytes.result.now _ _ c.requires c.in-Ok.ensures.applied c.in-Ok.ensures.seen (c.bytes.ensures ∙ c.in-Ok.ensures.answer) c.in-Ok-write_all.ensures.all

pub returns-in-Err-write_all-clause-carried : goal.returns-in-Err-write_all-clause-carried
returns-in-Err-write_all-clause-carried g c =
    carried_in_part c.args.agent.now c.carry_out.new.agent c.args.frame.now c.bytes.result.now _ _ c.requires c.in-Ok.ensures.applied c.in-Ok.ensures.seen (c.bytes.ensures ∙ c.in-Ok.ensures.answer) c.in-Err-write_all.ensures.part

pub returns-in-Err-clause-carried : goal.returns-in-Err-clause-carried
returns-in-Err-clause-carried g c =
    no_room c.args.agent.now c.carry_out.new.agent c.args.frame.now _ c.requires c.in-Err.ensures.err c.in-Err.ensures.memory c.in-Err.ensures.above

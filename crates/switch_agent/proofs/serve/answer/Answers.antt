use Rattle.switch_agent.proofs.Chains.{carried_in_part, carried_one}
use Rattle.switch_agent.proofs.Stops.{no_room}
use Rattle.switch_agent.proofs.serve.answer.Goals as goal

pub returns-in-Ok-write_all-clause-carried : goal.returns-in-Ok-write_all-clause-carried
returns-in-Ok-write_all-clause-carried g c =
    carried_one c.args.agent.now c.apply.new.self (c.args.migration, c.args.command.now) c.in-Ok.given c.bytes_of-bytes.result _ _ c.requires c.in-Ok.ensures.applied c.in-Ok.ensures.seen c.in-Ok.ensures.answer c.bytes_of-bytes.ensures c.in-Ok-write_all.ensures.all

pub returns-in-Err-write_all-clause-carried : goal.returns-in-Err-write_all-clause-carried
returns-in-Err-write_all-clause-carried g c =
    carried_in_part c.args.agent.now c.apply.new.self (c.args.migration, c.args.command.now) c.in-Ok.given c.bytes_of-bytes.result _ _ c.requires c.in-Ok.ensures.applied c.in-Ok.ensures.seen c.in-Ok.ensures.answer c.bytes_of-bytes.ensures c.in-Err-write_all.ensures.part

pub returns-in-Err-clause-carried : goal.returns-in-Err-clause-carried
returns-in-Err-clause-carried g c =
    no_room c.args.agent.now c.apply.new.self (c.args.migration, c.args.command.now) _ c.requires c.in-Err.ensures.err c.in-Err.ensures.memory

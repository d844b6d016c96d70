use Rattle.std.proofs.Common.{◌∙◌, ◌++◌, if◌then◌else◌, ap, refl}
use Rattle.wan_edge.specs.Frames.{CommandFrame, command_bytes}
use Rattle.fenced_agent.specs.Agents.{FencedItems, fenced_holding}
use Rattle.agent_talks.specs.Serving.{reply_bytes}
use Rattle.agent_talks.proofs.Chains.{carried_one}
use Rattle.agent_talks.proofs.Stops.{no_room}
use Rattle.agent_service.proofs.Batching.{Stores-one, Stores-same, as_told}
use Rattle.agent_service.proofs.gathering.carry.Goals as goal

pub returns-in_ok-add_carried-in-Ok-clause-carried : goal.returns-in_ok-add_carried-in-Ok-clause-carried
returns-in_ok-add_carried-in-Ok-clause-carried c =
    carried_one c.args.agent.now c.carry_out.new.agent c.args.frame.now (reply_bytes c.in-Ok.reply) _ _ c.requires c.in-Ok.ensures.applied c.in-Ok.ensures.seen c.in-Ok.ensures.answer
    (as_told c.args.gathered.now.answers.items _ (reply_bytes c.in-Ok.reply) c.in_ok-add_carried-in-Ok.ensures.answers)

pub returns-in_ok-add_carried-in-Ok-clause-stored : goal.returns-in_ok-add_carried-in-Ok-clause-stored
returns-in_ok-add_carried-in-Ok-clause-stored c =
    Stores-one c.takes-takes.result (fenced_holding c.args.agent.now) (fenced_holding c.carry_out.new.agent) c.args.frame.now c.args.gathered.now.batch.items _ c.takes-takes.ensures c.in-Ok.ensures.applied c.requires
    (c.in_ok-add_carried-in-Ok.ensures.batch
    ∙ ap (λ (command : CommandFrame). if c.takes-takes.result then c.args.gathered.now.batch.items ++ command_bytes command else c.args.gathered.now.batch.items) c.frame.ensures)

pub returns-in-Err-clause-carried : goal.returns-in-Err-clause-carried
returns-in-Err-clause-carried c =
    no_room c.args.agent.now c.carry_out.new.agent c.args.frame.now _ c.requires c.in-Err.ensures.err c.in-Err.ensures.memory c.in-Err.ensures.above

pub returns-in-Err-clause-stored : goal.returns-in-Err-clause-stored
returns-in-Err-clause-stored c = Stores-same (fenced_holding c.args.agent.now) (fenced_holding c.carry_out.new.agent) _ _ (ap (λ (f : FencedItems). (fenced_holding f).held) c.in-Err.ensures.err) refl

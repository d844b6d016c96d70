use Rattle.std.proofs.Common.{refl}
use Rattle.fenced_agent.specs.Agents.{fenced_holding}
use Rattle.agent_service.proofs.Batching.{stores_all}
use Rattle.agent_service.proofs.gathering.gather_batch.Goals as goal

-- the batch, with the floor in front
pub returns-clause-stored : goal.returns-clause-stored
returns-clause-stored c =
    stores_all (fenced_holding c.args.agent.now) (fenced_holding c.gather.new.agent) c.floor-before.result c.floor.result
    c.args.gathered.now.batch.items c.gather.new.gathered.batch.items c.gather.new.gathered.batch.items c.put_floor.new.batch.items
    c.floor-before.ensures c.floor.ensures c.put_floor.ensures.small c.requires.empty refl c.in_ok-put_floor.ensures.put c.in_ok-served.ensures.stored

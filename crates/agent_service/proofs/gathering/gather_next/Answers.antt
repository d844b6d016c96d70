use Rattle.std.proofs.Common.{◌≡◌}
use Rattle.fenced_agent.specs.Agents.{fenced_holding}
use Rattle.agent_talks.proofs.Stops.{ends_cut, fault_carried, none_carried}
use Rattle.fenced_wire.specs.Reading.{all_kept}
use Rattle.agent_service.proofs.Batching.{stores_none}
use Rattle.agent_service.proofs.gathering.gather_next.Goals as goal

pub returns-in_ok-served-in-Ok-default-Some-clause-cut : goal.returns-in_ok-served-in-Ok-default-Some-clause-cut
returns-in_ok-served-in-Ok-default-Some-clause-cut c = λ none.
    let found = c.in-Ok-default-Some in
    ends_cut c.args.reader.now c.args.piece.now found.n found.field-0-1 found.frame c.feed.new.self found.field-0-1-is found.ensures

pub returns-in-Ok-default-None-clause-carried : goal.returns-in-Ok-default-None-clause-carried
returns-in-Ok-default-None-clause-carried c =
    none_carried c.args.agent.now c.args.reader.now c.args.piece.now c.in-Ok-default-None.n c.in-Ok-default-None.field-0-1 c.feed.new.self _ c.in-Ok-default-None.field-0-1-is c.in-Ok-default-None.ensures

pub returns-in-Ok-default-None-clause-stored : goal.returns-in-Ok-default-None-clause-stored
returns-in-Ok-default-None-clause-stored c = stores_none (fenced_holding c.args.agent.now) c.args.gathered.now.batch.items

pub returns-in-Err-clause-carried : goal.returns-in-Err-clause-carried
returns-in-Err-clause-carried c =
    fault_carried c.args.agent.now (all_kept c.args.reader.now) c.args.piece.now c.in-Err.fault (λ rest. rest ≡ all_kept c.feed.new.self) _ c.in-Err.ensures.at_byte

pub returns-in-Err-clause-stored : goal.returns-in-Err-clause-stored
returns-in-Err-clause-stored c = stores_none (fenced_holding c.args.agent.now) c.args.gathered.now.batch.items

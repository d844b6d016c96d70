use Rattle.std.proofs.Common.{◌≡◌}
use Rattle.fenced_wire.specs.Reading.{all_kept}
use Rattle.agent_talks.proofs.Stops.{ends_cut, fault_carried, none_carried}
use Rattle.agent_talks.proofs.serve.serve_next.Goals as goal

pub returns-in-Ok-default-Some-clause-cut : goal.returns-in-Ok-default-Some-clause-cut
returns-in-Ok-default-Some-clause-cut g c = λ none.
    let found = c.in-Ok-default-Some in
    ends_cut c.args.reader.now c.args.piece.now found.n found.field-0-1 found.frame c.feed.new.self found.field-0-1-is found.ensures

pub returns-in-Ok-default-None-clause-carried : goal.returns-in-Ok-default-None-clause-carried
returns-in-Ok-default-None-clause-carried g c =
    none_carried c.args.agent.now c.args.reader.now c.args.piece.now c.in-Ok-default-None.n c.in-Ok-default-None.field-0-1 c.feed.new.self _ c.in-Ok-default-None.field-0-1-is c.in-Ok-default-None.ensures

pub returns-in-Err-clause-carried : goal.returns-in-Err-clause-carried
returns-in-Err-clause-carried g c =
    fault_carried c.args.agent.now (all_kept c.args.reader.now) c.args.piece.now c.in-Err.fault (λ rest. rest ≡ all_kept c.feed.new.self) _ c.in-Err.ensures.at_byte

use Rattle.std.proofs.Common.{◌≡◌}
use Rattle.switch_agent.proofs.Stops.{fault_carried, none_carried}
use Rattle.switch_agent.proofs.serve.serve_next.Goals as goal

pub returns-in-Ok-default-None-clause-carried : goal.returns-in-Ok-default-None-clause-carried
returns-in-Ok-default-None-clause-carried g c =
    none_carried c.args.agent.now c.args.reader.now.kept c.args.piece.now c.in-Ok-default-None.n c.in-Ok-default-None.field-0-1 c.feed.new.self _ c.in-Ok-default-None.field-0-1-is c.in-Ok-default-None.ensures.read

pub returns-in-Err-clause-carried : goal.returns-in-Err-clause-carried
returns-in-Err-clause-carried g c =
    fault_carried c.args.agent.now c.args.reader.now.kept c.args.piece.now c.in-Err.fault (λ rest. rest ≡ c.feed.new.self.kept) _ c.in-Err.ensures.read.at_byte

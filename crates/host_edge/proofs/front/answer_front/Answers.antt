use Rattle.std.proofs.Common.{ap}
use Rattle.wire_frames.specs.Reading.{Reader}
use Rattle.host_edge.proofs.Fronting.{answer-cut, answer-other, answer-whole}
use Rattle.host_edge.proofs.front.answer_front.Goals as goal

pub returns-in-Some : goal.returns-in-Some
returns-in-Some c = answer-whole c.args.bytes.now _ (ap (λ (r : Reader). r.kept) c.new.ensures.new) c.in-Ok.n _ _ _ c.in-Some.is c.in-Ok.ensures.read

pub returns-in-None : goal.returns-in-None
returns-in-None c = answer-cut c.args.bytes.now _ (ap (λ (r : Reader). r.kept) c.new.ensures.new) c.in-Ok.n _ _ c.in-None.is c.in-Ok.ensures.read

pub returns-in-Err : goal.returns-in-Err
returns-in-Err c = answer-other c.args.bytes.now _ (ap (λ (r : Reader). r.kept) c.new.ensures.new) _ _ c.in-Err.ensures.read

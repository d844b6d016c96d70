use Rattle.host_edge.proofs.Fronting.{plain-fronts}
use Rattle.host_edge.proofs.front.plain_front.Goals as goal

pub returns : goal.returns
returns c = plain-fronts c.args.bytes.now c.answer_front.result c.requires.plain c.answer_front.ensures

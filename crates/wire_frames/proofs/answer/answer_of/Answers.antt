use Rattle.std.proofs.Common.{arith}
use Rattle.wire_frames.proofs.Spelling.{answer_spelled}
use Rattle.wire_frames.proofs.answer.answer_of.Goals as goal

pub returns-clause-spelled : goal.returns-clause-spelled
returns-clause-spelled c = answer_spelled c.args.bytes.now _ _ _ c.requires.long c.requires.kind (λ i. omega (arith, c.type_inv.bytes i)) c.read_u32-3.ensures c.read_u32.ensures c.read_u32-2.ensures

use Rattle.std.proofs.Common.{refl}
use Rattle.fenced_wire.proofs.writing.write_fence.Goals as goal

pub returns : goal.returns
returns c = rw c.write_u32.ensures refl

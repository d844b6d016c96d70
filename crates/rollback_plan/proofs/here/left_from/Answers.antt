use Rattle.std.proofs.Common.{arith}
use Rattle.rollback_plan.proofs.here.left_from.Goals as goal

pub returns : goal.returns
returns c = omega (arith, c.saturating_sub.ensures, c.op_count.ensures, c.comes_to-settled.ensures)

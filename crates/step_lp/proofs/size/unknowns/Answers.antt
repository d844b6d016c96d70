use Rattle.std.proofs.Common.{arith}
use Rattle.step_lp.proofs.Sizes.{few_unknowns}
use Rattle.step_lp.proofs.size.unknowns.Goals as goal

pub overflow_mul-result-2 : goal.overflow_mul-result-2
overflow_mul-result-2 c = omega (arith, few_unknowns c.used_count.result c.args.q (omega arith) (omega arith))

pub returns-clause-few : goal.returns-clause-few
returns-clause-few c = few_unknowns c.used_count.result c.args.q (omega arith) (omega arith)

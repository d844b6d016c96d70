use Rattle.std.proofs.Common.{arith}
use Rattle.std.proofs.lemmas.Nat.{mul-le}
use Rattle.rollout_rules.specs.declared.limits.TheConstants.{LARGEST_RATE, MOST_HOPS}
use Rattle.fewest_plan.proofs.marked.times.Goals as goal

pub overflow_mul-result : goal.overflow_mul-result
overflow_mul-result c = omega (arith, mul-le c.args.rate c.args.often LARGEST_RATE MOST_HOPS c.requires.rate c.requires.often)

pub returns-clause-most : goal.returns-clause-most
returns-clause-most c = omega (arith, mul-le c.args.rate c.args.often LARGEST_RATE MOST_HOPS c.requires.rate c.requires.often)

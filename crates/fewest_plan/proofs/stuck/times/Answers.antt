use Rattle.std.proofs.Common.{◌*◌, arith}
use Rattle.std.proofs.lemmas.Nat.{mul-le}
use Rattle.rollout_rules.specs.declared.limits.TheConstants.{LARGEST_RATE, MOST_HOPS, MOST_TUNNELS_OF_FLOW}
use Rattle.fewest_plan.proofs.stuck.times.Goals as goal

pub overflow_mul-result : goal.overflow_mul-result
overflow_mul-result c = omega (arith, mul-le c.args.often c.args.total MOST_HOPS (MOST_TUNNELS_OF_FLOW * LARGEST_RATE) c.requires.often c.requires.total)

pub returns-clause-most : goal.returns-clause-most
returns-clause-most c = omega (arith, mul-le c.args.often c.args.total MOST_HOPS (MOST_TUNNELS_OF_FLOW * LARGEST_RATE) c.requires.often c.requires.total)

use Rattle.std.proofs.Common.{ℕ, ◌*◌, ◌^◌, ◌<◌, ◌≤◌, arith}
use Rattle.std.proofs.lemmas.Nat.{mul-le}
use Rattle.rollout_rules.specs.declared.limits.TheConstants.{LARGEST_CAPACITY}
use Rattle.fewest_plan.proofs.relief.is_as_full.Goals as goal

small : (load capacity : ℕ) → load < 2 ^ 64 → capacity ≤ LARGEST_CAPACITY → load * capacity ≤ 2 ^ 64 * LARGEST_CAPACITY
small load capacity a b = mul-le load capacity (2 ^ 64) LARGEST_CAPACITY (omega arith) b

pub overflow_mul-left : goal.overflow_mul-left
overflow_mul-left c = omega (arith, small c.args.other c.args.capacity c.requires.other c.requires.capacity)

pub overflow_mul-right : goal.overflow_mul-right
overflow_mul-right c = omega (arith, small c.args.load c.args.its c.requires.load c.requires.its)

pub overflow_mul-least : goal.overflow_mul-least
overflow_mul-least c = omega (arith, small c.args.other c.args.capacity c.requires.other c.requires.capacity)

pub overflow_mul-most : goal.overflow_mul-most
overflow_mul-most c = omega (arith, small c.args.load c.args.its c.requires.load c.requires.its)

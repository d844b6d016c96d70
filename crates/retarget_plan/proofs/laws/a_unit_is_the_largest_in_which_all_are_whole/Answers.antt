use Rattle.retarget_plan.proofs.Divisors.{divisor-each, divisor-greatest, divisor-top}
use Rattle.retarget_plan.proofs.laws.a_unit_is_the_largest_in_which_all_are_whole.Goals as goal

pub returns : goal.returns
returns c = record { top = divisor-top; each = divisor-each; greatest = divisor-greatest }

use Rattle.fraction_lp.proofs.Calls.{product-quotient}
use Rattle.fraction_lp.proofs.laws.a_quotient_times_its_divisor_is_the_dividend.Goals as goal

pub returns : goal.returns
returns c x y h = product-quotient y x h

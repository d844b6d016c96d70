use Rattle.fraction_lp.proofs.Arithmetic.{ratio-value}
use Rattle.fraction_lp.proofs.laws.a_reduced_fraction_keeps_its_value.Goals as goal

pub returns : goal.returns
returns c = ratio-value

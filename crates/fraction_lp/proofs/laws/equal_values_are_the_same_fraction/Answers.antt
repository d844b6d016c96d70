use Rattle.fraction_lp.proofs.Arithmetic.{same_value}
use Rattle.fraction_lp.proofs.laws.equal_values_are_the_same_fraction.Goals as goal

pub returns : goal.returns
returns c = same_value

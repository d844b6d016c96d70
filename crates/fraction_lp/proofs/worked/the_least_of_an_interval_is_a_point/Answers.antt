use Rattle.std.proofs.Common.{refl}
use Rattle.fraction_lp.specs.Dictionary.{end_from, end_of}
use Rattle.fraction_lp.proofs.worked.the_least_of_an_interval_is_a_point.Goals as goal

pub returns : goal.returns
unfolding end_from end_of
returns c = refl

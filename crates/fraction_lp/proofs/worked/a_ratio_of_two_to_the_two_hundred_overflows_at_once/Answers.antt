use Rattle.std.proofs.Common.{refl}
use Rattle.fraction_lp.specs.Dictionary.{end_from, end_of}
use Rattle.fraction_lp.proofs.worked.a_ratio_of_two_to_the_two_hundred_overflows_at_once.Goals as goal

pub returns : goal.returns
unfolding end_from end_of
returns c = refl

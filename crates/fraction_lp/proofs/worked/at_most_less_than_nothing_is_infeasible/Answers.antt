use Rattle.std.proofs.Common.{refl}
use Rattle.fraction_lp.specs.Dictionary.{end_from, end_of}
use Rattle.fraction_lp.proofs.worked.at_most_less_than_nothing_is_infeasible.Goals as goal

pub returns : goal.returns
unfolding end_from end_of
returns c = refl

use Rattle.std.proofs.Common.{refl}
use Rattle.fraction_lp.specs.Dictionary.{end_from, end_of}
use Rattle.lp_proof.specs.Least.{by_program}
use Rattle.lp_proof.proofs.worked.the_method_finds_these_multipliers.Goals as goal

pub returns : goal.returns
unfolding end_from end_of by_program
returns c = refl

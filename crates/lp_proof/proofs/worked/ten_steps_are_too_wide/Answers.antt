use Rattle.std.proofs.Common.{refl}
use Rattle.lp_proof.specs.Least.{by_program}
use Rattle.lp_proof.proofs.worked.ten_steps_are_too_wide.Goals as goal

pub returns : goal.returns
unfolding by_program
returns c = refl

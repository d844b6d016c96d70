use Rattle.std.specs.Fmt.{digits}
use Rattle.std.proofs.Common.{refl}
use Rattle.swanroll_top.proofs.worked.the_line_of_a_drained_rollout.Goals as goal

pub returns : goal.returns
unfolding digits
returns c = record { some = refl; all = refl }

use Rattle.fraction_lp.proofs.Farkas.{no_feasible_point}
use Rattle.fraction_lp.proofs.laws.a_certificate_excludes_every_feasible_point.Goals as goal

pub returns : goal.returns
returns c = no_feasible_point

use Rattle.std.proofs.Math.Nat.{one-dvd}
use Rattle.step_lp.specs.Points.{rates_of}
use Rattle.step_lp.proofs.Multiples.{common_bottom-each, common_bottom-least}
use Rattle.step_lp.proofs.laws.the_scale_is_the_least_common_denominator.Goals as goal

pub returns-clause-each : goal.returns-clause-each
returns-clause-each c p q xs = common_bottom-each 1 (rates_of p q xs)

pub returns-clause-least : goal.returns-clause-least
returns-clause-least c p q xs m all = common_bottom-least 1 m (rates_of p q xs) (one-dvd m) all

use Rattle.std.proofs.Common.{arith}
use Rattle.std.proofs.lemmas.Nat.Gcd.{IsGcd-from_zero, IsGcd-from_mod, same_from_IsGcd}
use Rattle.fraction_lp.specs.Divisors.{IsGcd-gcd}
use Rattle.fraction_lp.proofs.divisor.narrow.Goals as goal

pub loop-lesser-preserved : goal.loop-lesser-preserved
loop-lesser-preserved c g h = c.loop-lesser.invariant g (IsGcd-from_mod _ _ g h)

pub returns : goal.returns
returns c = same_from_IsGcd _ _ _ _ (c.loop-lesser.invariant _ (IsGcd-from_zero _ _ (omega arith))) (IsGcd-gcd _ _)

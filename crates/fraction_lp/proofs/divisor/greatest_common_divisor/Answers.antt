use Rattle.std.proofs.Common.{◌≡◌, ◌%◌, arith}
use Rattle.std.specs.Int.{IsGcd}
use Rattle.std.proofs.lemmas.Nat.Gcd.{IsGcd-from_zero, IsGcd-from_mod, same_from_IsGcd}
use Rattle.fraction_lp.specs.Divisors.{gcd, IsGcd-gcd}
use Rattle.fraction_lp.proofs.divisor.greatest_common_divisor.Goals as goal

pub loop-lesser-preserved : goal.loop-lesser-preserved
loop-lesser-preserved c g h = c.loop-lesser.invariant g (IsGcd-from_mod _ _ g h)

pub returns-then-lesser-eq0 : goal.returns-then-lesser-eq0
returns-then-lesser-eq0 c =
    same_from_IsGcd _ _ _ _ (c.loop-lesser.invariant _ (IsGcd-from_zero _ _ (omega arith))) (IsGcd-gcd _ _)

pub returns : goal.returns
returns c =
    let last : c.narrow.result ≡ gcd c.loop-lesser.lesser (c.loop-lesser.greater % c.loop-lesser.lesser) = c.narrow.ensures in
    same_from_IsGcd _ _ _ _
    (c.loop-lesser.invariant _
    (IsGcd-from_mod _ _ _
    (rw last (IsGcd-gcd c.loop-lesser.lesser (c.loop-lesser.greater % c.loop-lesser.lesser)))))
    (IsGcd-gcd _ _)
